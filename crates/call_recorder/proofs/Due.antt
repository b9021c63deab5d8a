-- A recorded answer that is due.
use Rattle.std.specs.Prelude.{if◌then◌else◌, ◌||◌, ◌==◌, nat_le, is_some, unwrap_or, drop}
use Rattle.std.specs.Option.{option_or}
use Rattle.std.proofs.Common.{◌≡◌, ℕ, zero, suc, ◌+◌, ◌-◌, ◌^◌, ◌<◌, ◌≤◌, ◌⊎◌, inl, inr, ⊎_elim, Bool, true, false, List, [], ◌∷◌, length, take, Option, Some, None, refl, sym, ap, subst, ◌∙◌, arith, eq-eqb, le-leb, leb-true}
use Rattle.std.proofs.lemmas.List.{length-take}
use Rattle.std.proofs.lemmas.Bool.{cases_lt, or_right}
use Rattle.sl_base.specs.declared.call.Call.{Call}
use Rattle.sl_base.specs.Calls.{write_number, is_write, is_error, error_result}
use Rattle.outside.specs.World.{room_of, taken_of, IsAnswer, heard_by}
use Rattle.call_log.specs.declared.ask.Ask.{Ask}
use Rattle.call_log.specs.declared.entry.CallEntry.{CallEntry}
use Rattle.call_recorder.specs.Answered.{heard_of}
use Rattle.call_log.specs.Differences.{field_diff, fields_diff, bytes_diff, is_answer, due_result, due_length, call_diff, answer_diff, first_difference}

field_same : (field recorded due : ℕ) → recorded ≡ due → field_diff field recorded due ≡ None
field_same field recorded due same = rw (eq-eqb recorded due same) refl

fields_same : (field : ℕ) (xs : List ℕ) → fields_diff field xs xs ≡ None
fields_same field [] = refl
fields_same field (x ∷ xs) = ap (λ o. option_or o (fields_diff (field + 1) xs xs)) (field_same field x x refl) ∙ fields_same (field + 1) xs

bytes_same : (xs : List ℕ) → bytes_diff xs xs ≡ None
bytes_same [] = refl
bytes_same (x ∷ xs) = ap (λ o. option_or o (bytes_diff xs xs)) (field_same 9 x x refl) ∙ bytes_same xs

pub due_none : (entry : CallEntry) (ask : Ask) → entry.call ≡ ask.call → entry.result ≡ due_result ask entry.result → length entry.bytes ≡ due_length ask entry.result → ((ask.call.number == write_number) ≡ true → bytes_diff entry.bytes ask.give ≡ None)
    → first_difference entry ask ≡ None
due_none entry ask call result size bytes =
    ap (λ o. option_or o (answer_diff entry ask)) (ap (λ (c : Call). call_diff c ask.call) call ∙ ap (λ o. option_or o (fields_diff 1 ask.call.args ask.call.args)) (field_same 0 ask.call.number ask.call.number refl) ∙ fields_same 1 ask.call.args)
    ∙ ap (λ o. option_or o (option_or (field_diff 8 (length entry.bytes) (due_length ask entry.result)) (if ask.call.number == write_number then bytes_diff entry.bytes ask.give else None))) (field_same 7 entry.result (due_result ask entry.result) result)
    ∙ ap (λ o. option_or o (if ask.call.number == write_number then bytes_diff entry.bytes ask.give else None)) (field_same 8 (length entry.bytes) (due_length ask entry.result) size)
    ∙ chosen (ask.call.number == write_number) refl
  where
    chosen : (b : Bool) → (ask.call.number == write_number) ≡ b → (if b then bytes_diff entry.bytes ask.give else None) ≡ None
    chosen true is = bytes is
    chosen false is = refl

-- a result that may come is due
result_due : (ask : Ask) (result : ℕ) → ask.fixed ≡ None → is_answer ask.room result ≡ true → result ≡ due_result ask result
result_due ask result none is = sym (ap (λ o. unwrap_or o (if is_answer ask.room result then result else ask.room)) none ∙ ap (λ (b : Bool). if b then result else ask.room) is)

may_come : (size result : ℕ) → (result ≤ size) ⊎ (error_result 4095 ≤ result) → is_answer size result ≡ true
may_come size result either = ⊎_elim
    (λ (le : result ≤ size). ap (λ b. b || is_error result) (le-leb result size le))
    (λ (error : error_result 4095 ≤ result). or_right (nat_le result size) (is_error result) (le-leb (error_result 4095) result error))
    either

pub due_write : (ask : Ask) (result : ℕ) → ask.fixed ≡ None → is_write ask.call ≡ true → length ask.give ≡ ask.room → IsAnswer ask.call (length ask.give) 0 result
    → first_difference (record { call = ask.call; result = result; bytes = ask.give }) ask ≡ None
due_write ask result none writes size answer =
    due_none (record { call = ask.call; result = result; bytes = ask.give }) ask refl
    (result_due ask result none (may_come ask.room result (⊎_elim (λ (le : result ≤ room_of ask.call (length ask.give) 0). inl (subst (λ n. result ≤ n) (ap (λ (b : Bool). if b then length ask.give else 0) writes ∙ size) le)) (λ (error : error_result 4095 ≤ result). inr error) answer)))
    (sym (ap (λ o. if is_some o then 0 else (if is_write ask.call then ask.room else (if is_error result then 0 else result))) none ∙ ap (λ (b : Bool). if b then ask.room else (if is_error result then 0 else result)) writes ∙ sym size))
    (λ is. bytes_same ask.give)

pub due_read : (ask : Ask) (result : ℕ) (room bytes : List ℕ) → ask.fixed ≡ None → is_write ask.call ≡ false → length room ≡ ask.room → IsAnswer ask.call (length ask.give) (length room) result → bytes ≡ take (if is_error result then 0 else result) room
    → first_difference (record { call = ask.call; result = result; bytes = bytes }) ask ≡ None
due_read ask result room bytes none reads size answer taken =
    let within : (result ≤ ask.room) ⊎ (error_result 4095 ≤ result) = ⊎_elim (λ (le : result ≤ room_of ask.call (length ask.give) (length room)). inl (subst (λ n. result ≤ n) (ap (λ (b : Bool). if b then length ask.give else length room) reads ∙ size) le)) (λ (error : error_result 4095 ≤ result). inr error) answer in
    due_none (record { call = ask.call; result = result; bytes = bytes }) ask refl
    (result_due ask result none (may_come ask.room result within))
    (ap length taken ∙ long (is_error result) refl within ∙ sym (ap (λ o. if is_some o then 0 else (if is_write ask.call then ask.room else (if is_error result then 0 else result))) none ∙ ap (λ (b : Bool). if b then ask.room else (if is_error result then 0 else result)) reads))
    (λ is. absurd cc)
  where
    long : (b : Bool) → is_error result ≡ b → (result ≤ ask.room) ⊎ (error_result 4095 ≤ result) → length (take (if b then 0 else result) room) ≡ (if b then 0 else result)
    long true is within = refl
    long false is within = ⊎_elim
        (λ (le : result ≤ ask.room). omega (arith, length-take result room, size))
        (λ (error : error_result 4095 ≤ result).
        let yes : is_error result ≡ true = le-leb (error_result 4095) result error in
        absurd cc)
        within

pub due_fixed : (ask : Ask) (result : ℕ) → ask.fixed ≡ Some result → first_difference (record { call = ask.call; result = result; bytes = [] }) ask ≡ None
due_fixed ask result fixed =
    due_none (record { call = ask.call; result = result; bytes = [] }) ask refl
    (sym (ap (λ o. unwrap_or o (if is_answer ask.room result then result else ask.room)) fixed))
    (sym (ap (λ o. if is_some o then 0 else (if is_write ask.call then ask.room else (if is_error result then 0 else result))) fixed))
    (λ is. refl)

-- ---- what the outside heard of it

pub heard_write : (ask : Ask) (result : ℕ) (after : List ℕ) → is_write ask.call ≡ true → heard_by ask.call ask.give 0 result after ≡ heard_of ask (record { call = ask.call; result = result; bytes = ask.give })
heard_write ask result after writes =
    let none : take (taken_of ask.call result) after ≡ (if is_write ask.call then [] else ask.give) = ap (λ n. take n after) (none_taken (is_error result)) ∙ sym (ap (λ (b : Bool). if b then [] else ask.give) writes) in
    let nowhere : 0 ≡ (if is_write ask.call then 0 else ask.room) = sym (ap (λ (b : Bool). if b then 0 else ask.room) writes) in
    λ i. record { call = ask.call; give = ask.give; room = nowhere i; result = result; bytes = none i }
  where
    none_taken : (error : Bool) → (if error then 0 else (if is_write ask.call then 0 else result)) ≡ 0
    none_taken true = refl
    none_taken false = ap (λ (b : Bool). if b then 0 else result) writes

pub heard_read : (ask : Ask) (size result : ℕ) (room bytes : List ℕ) → is_write ask.call ≡ false → size ≡ ask.room → bytes ≡ take (if is_error result then 0 else result) room → heard_by ask.call ask.give size result room ≡ heard_of ask (record { call = ask.call; result = result; bytes = bytes })
heard_read ask size result room bytes reads same taken =
    let some : take (taken_of ask.call result) room ≡ (if is_write ask.call then [] else bytes) = ap (λ (b : Bool). take (if is_error result then 0 else (if b then 0 else result)) room) reads ∙ sym taken ∙ sym (ap (λ (b : Bool). if b then [] else bytes) reads) in
    let here : size ≡ (if is_write ask.call then 0 else ask.room) = same ∙ sym (ap (λ (b : Bool). if b then 0 else ask.room) reads) in
    λ i. record { call = ask.call; give = ask.give; room = here i; result = result; bytes = some i }
