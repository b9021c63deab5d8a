-- What a program asks, by what is decided one after the other.
use Rattle.std.specs.Prelude.{if◌then◌else◌, is_some}
use Rattle.std.proofs.Common.{◌≡◌, ℕ, Bool, true, false, List, [], Option, Some, None, sym, ap, ◌∙◌}
use Rattle.sl_base.specs.declared.call.Call.{Call}
use Rattle.sl_model.specs.State.{State}
use Rattle.call_log.specs.declared.ask.Ask.{Ask}
use Rattle.replay.specs.Calls.{call_of, is_exit, fixed_result, given, room, ask_with, ask_of}

pub asks_none : (s : State) → is_exit (call_of s) ≡ true → ask_of s ≡ None
asks_none s exits = ap (λ (b : Bool). if◌then◌else◌ {A = Option Ask} b None (Some (ask_with s (call_of s) (fixed_result s (call_of s))))) exits

asks : (s : State) → is_exit (call_of s) ≡ false → ask_of s ≡ Some (ask_with s (call_of s) (fixed_result s (call_of s)))
asks s goes_on = ap (λ (b : Bool). if◌then◌else◌ {A = Option Ask} b None (Some (ask_with s (call_of s) (fixed_result s (call_of s))))) goes_on

-- with this call and this decision of the machine
asks_so : (s : State) (call : Call) (fixed : Option ℕ) → call ≡ call_of s → fixed ≡ fixed_result s call → is_exit (call_of s) ≡ false → ask_of s ≡ Some (ask_with s call fixed)
asks_so s call fixed same decided goes_on =
    asks s goes_on ∙ ap (λ (c : Call). Some (ask_with s c (fixed_result s c))) (sym same) ∙ ap (λ (o : Option ℕ). Some (ask_with s call o)) (sym decided)

pub asks_fixed : (s : State) (call : Call) (fixed : Option ℕ) (give : List ℕ) → call ≡ call_of s → fixed ≡ fixed_result s call → is_some fixed ≡ true → give ≡ [] → is_exit (call_of s) ≡ false
    → ask_of s ≡ Some (record { call = call; give = give; room = 0; fixed = fixed })
asks_fixed s call None give same decided some none goes_on = absurd cc
asks_fixed s call (Some n) give same decided some none goes_on =
    asks_so s call (Some n) same decided goes_on ∙ ap (λ (bytes : List ℕ). Some (record { call = call; give = bytes; room = 0; fixed = Some n })) (sym none)

pub asks_outside : (s : State) (call : Call) (fixed : Option ℕ) (give : List ℕ) (size : ℕ) → call ≡ call_of s → fixed ≡ fixed_result s call → is_some fixed ≡ false → give ≡ given s call → size ≡ room call → is_exit (call_of s) ≡ false
    → ask_of s ≡ Some (record { call = call; give = give; room = size; fixed = fixed })
asks_outside s call (Some n) give size same decided some is_given is_room goes_on = absurd cc
asks_outside s call None give size same decided some is_given is_room goes_on =
    let whole : Ask → Option Ask = λ ask. Some ask in
    asks_so s call None same decided goes_on
    ∙ ap (λ (bytes : List ℕ). whole (record { call = call; give = bytes; room = room call; fixed = None })) (sym is_given)
    ∙ ap (λ (n : ℕ). whole (record { call = call; give = give; room = n; fixed = None })) (sym is_room)
