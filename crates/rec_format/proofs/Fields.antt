-- A field that is read is the field that was spelled, and what was spelled is read again.
use Rattle.std.proofs.Common.{◌≡◌, ℕ, ◌+◌, ◌^◌, ◌<◌, ◌≤◌, Bool, true, false, cond, ltb, List, ◌++◌, length, get_or, take, drop, Result, Ok, Err, refl, sym, ap, subst, ◌∙◌, append_assoc, inl, inr, arith}
use Rattle.std.specs.Int.{w32, w64, from_le_bytes, to_le_bytes}
use Rattle.std.specs.Str.{bytes_eq}
use Rattle.std.proofs.lemmas.Bool.{cases_lt, ltb-false, le-ltb}
use Rattle.std.proofs.lemmas.List.{take_at, drop_at, take-append-drop, length-append, length-take, get_or-drop, get_or-take, get_or_past}
use Rattle.std.proofs.lemmas.Nat.{le_bytes_4, le_bytes_8, from_le_bytes-to_le_bytes_4, from_le_bytes-to_le_bytes_8}
use Rattle.std.proofs.lemmas.Slice.Eq.{bytes_eq-Decides}
use Rattle.rec_format.specs.declared.fault.RecCause.{RecCause}
use Rattle.rec_format.specs.declared.fault.RecCause.TheVariants.{Short, Range}
use Rattle.rec_format.specs.declared.fault.RecFault.{RecFault}
use Rattle.rec_format.specs.Place.{Rest}
use Rattle.rec_format.specs.Spelling.{word, double_word, sized}
use Rattle.rec_format.specs.Reading.{◌>>=◌, fault, refuse, run_at, text_at, word_at, double_word_at, word_up_to, sized_up_to}

-- ---- the words of the laws

abbrev pub IsBytes : List ℕ → Type 0
IsBytes bytes = (i : ℕ) → get_or bytes i 0 < 256

-- the bytes here are the text, and then those there
pub record Takes (here : Rest) (text : List ℕ) (there : Rest) : Type 0 where
  pub parts : here.bytes ≡ text ++ there.bytes
  pub rest_fits : IsBytes there.bytes

-- reading gives the value, and then stands before the rest
pub record Again {X : Type 0} (read : Result (X × Rest) RecFault) (x : X) (rest : List ℕ) : Type 0 where
  pub next : Rest
  pub reads : read ≡ Ok (x, next)
  pub stands : next.bytes ≡ rest

pub Takes-then : (a : Rest) (x : List ℕ) (b : Rest) (y : List ℕ) (c : Rest) → Takes a x b → Takes b y c → Takes a (x ++ y) c
Takes-then a x b y c p q = record { parts = p.parts ∙ ap (λ (t : List ℕ). x ++ t) q.parts ∙ sym (append_assoc x y c.bytes); rest_fits = q.rest_fits }

-- from a step that did not fail
pub step : {A B C : Type 0} (r : Result A RecFault) (f : A → Result B RecFault) (y : B) → (r >>= f) ≡ Ok y → ((x : A) → r ≡ Ok x → f x ≡ Ok y → C) → C
step (Ok x) f y e next = next x refl e
step (Err d) f y e next = absurd cc

-- from where reading then stands
pub from : {X C : Type 0} {read : Result (X × Rest) RecFault} {x : X} {rest : List ℕ} → Again read x rest → ((next : Rest) → read ≡ Ok (x, next) → next.bytes ≡ rest → C) → C
from a next = next a.next a.reads a.stands

abbrev done : {A : Type 0} → A → Result A RecFault
done x = Ok x

pub ok_is : {A : Type 0} (x y : A) → done x ≡ done y → x ≡ y
ok_is x y e = cc

-- a rule that is not broken
pub refuse_ok : {A : Type 0} (b : Bool) (at : Rest) (cause : RecCause) (x y : A) → refuse b at cause x ≡ Ok y → (b ≡ false) × (x ≡ y)
refuse_ok true at cause x y e = absurd cc
refuse_ok false at cause x y e = (refl, cc)

-- ---- runs of bytes

IsBytes-drop : (n : ℕ) (bytes : List ℕ) → IsBytes bytes → IsBytes (drop n bytes)
IsBytes-drop n bytes h i = rw get_or-drop (h (n + i))

IsBytes-take : (n : ℕ) (bytes : List ℕ) → IsBytes bytes → IsBytes (take n bytes)
IsBytes-take n bytes h i =
    elim (cases_lt i n) [
      | inl lt ↦ rw (get_or-take n bytes i 0 lt) (h i)
      | inr le ↦ rw (get_or_past (take n bytes) i 0 (omega (arith, length-take n bytes))) (omega arith)
    ]

pub record IsRun (at : Rest) (len : ℕ) (x : List ℕ × Rest) : Type 0 where
  pub takes : Takes at x.0 x.1
  pub len_is : length x.0 ≡ len
  pub fits : IsBytes x.0

pub run_takes : (at : Rest) (len : ℕ) (x : List ℕ × Rest) → IsBytes at.bytes → run_at len at ≡ Ok x → IsRun at len x
unfolding run_at
run_takes at len x fits e =
    let next : Rest = record { place = at.place + len; bytes = drop len at.bytes } in
    let made : List ℕ × Rest = (take len at.bytes, next) in
    let g = refuse_ok (ltb (length at.bytes) len) at Short made x e in
    let long : len ≤ length at.bytes = ltb-false _ _ g.0 in
    let whole : IsRun at len made = record {
      takes = record { parts = sym (take-append-drop len at.bytes); rest_fits = IsBytes-drop len at.bytes fits };
      len_is = omega (arith, length-take len at.bytes);
      fits = IsBytes-take len at.bytes fits;
    } in
    subst (IsRun at len) g.1 whole

pub run_again : (at : Rest) (len : ℕ) (text rest : List ℕ) → length text ≡ len → at.bytes ≡ text ++ rest → Again (run_at len at) text rest
unfolding run_at
run_again at len text rest len_is e =
    let long : ltb (length at.bytes) len ≡ false = le-ltb _ _ (rw e (omega (arith, length-append text rest))) in
    record {
      next = record { place = at.place + len; bytes = drop len at.bytes };
      reads = rw (long, e, take_at text rest len len_is) refl;
      stands = rw e (drop_at text rest len len_is);
    }

-- ---- these very bytes

is_same : {A : Type 0} (b : Bool) (x y : A) (d : RecFault) → cond b (Ok x) (Err d) ≡ Ok y → (b ≡ true) × (x ≡ y)
is_same true x y d e = (refl, cc)
is_same false x y d e = absurd cc

pub text_takes : (text : List ℕ) (cause : RecCause) (at : Rest) (x : List ℕ × Rest) → IsBytes at.bytes → text_at text cause at ≡ Ok x → Takes at text x.1
unfolding text_at
text_takes text cause at x fits e =
    step (run_at (length text) at) _ x e (λ run run_is rest.
    let r = run_takes at (length text) run fits run_is in
    let g = is_same (bytes_eq run.0 text) run x (fault at cause) rest in
    let same : run.0 ≡ text = (bytes_eq-Decides run.0 text).0 g.0 in
    subst (λ (y : List ℕ × Rest). Takes at text y.1) g.1 (subst (λ (t : List ℕ). Takes at t run.1) same r.takes))

pub text_again : (text : List ℕ) (cause : RecCause) (at : Rest) (rest : List ℕ) → at.bytes ≡ text ++ rest → Again (text_at text cause at) text rest
unfolding text_at
text_again text cause at rest e =
    from (run_again at (length text) text rest refl e) (λ next reads stands.
    let same : bytes_eq text text ≡ true = (bytes_eq-Decides text text).1 refl in
    record { next = next; reads = rw (reads, same) refl; stands = stands })

-- ---- numbers

pub word_takes : (at : Rest) (x : ℕ × Rest) → IsBytes at.bytes → word_at at ≡ Ok x → Takes at (word x.0) x.1 × (x.0 < 2 ^ 32)
unfolding word_at word
word_takes at x fits e =
    step (run_at 4 at) _ x e (λ run run_is rest.
    let r = run_takes at 4 run fits run_is in
    let n : ℕ = from_le_bytes w32 run.0 in
    let same : to_le_bytes w32 n ≡ run.0 = le_bytes_4 run.0 n r.len_is r.fits refl in
    let below : n < 2 ^ 32 = omega (arith, r.fits 0, r.fits 1, r.fits 2, r.fits 3) in
    subst (λ (y : ℕ × Rest). Takes at (to_le_bytes w32 y.0) y.1 × (y.0 < 2 ^ 32)) (ok_is (n, run.1) x rest) (subst (λ (t : List ℕ). Takes at t run.1) (sym same) r.takes, below))

pub word_again : (at : Rest) (n : ℕ) (rest : List ℕ) → n < 2 ^ 32 → at.bytes ≡ word n ++ rest → Again (word_at at) n rest
unfolding word_at word
word_again at n rest lt e =
    from (run_again at 4 (to_le_bytes w32 n) rest refl e) (λ next reads stands. record { next = next; reads = rw (reads, from_le_bytes-to_le_bytes_4 n lt) refl; stands = stands })

pub double_word_takes : (at : Rest) (x : ℕ × Rest) → IsBytes at.bytes → double_word_at at ≡ Ok x → Takes at (double_word x.0) x.1
unfolding double_word_at double_word
double_word_takes at x fits e =
    step (run_at 8 at) _ x e (λ run run_is rest.
    let r = run_takes at 8 run fits run_is in
    let n : ℕ = from_le_bytes w64 run.0 in
    let same : to_le_bytes w64 n ≡ run.0 = le_bytes_8 run.0 n r.len_is r.fits refl in
    subst (λ (y : ℕ × Rest). Takes at (to_le_bytes w64 y.0) y.1) (ok_is (n, run.1) x rest) (subst (λ (t : List ℕ). Takes at t run.1) (sym same) r.takes))

pub double_word_again : (at : Rest) (n : ℕ) (rest : List ℕ) → n < 2 ^ 64 → at.bytes ≡ double_word n ++ rest → Again (double_word_at at) n rest
unfolding double_word_at double_word
double_word_again at n rest lt e =
    from (run_again at 8 (to_le_bytes w64 n) rest refl e) (λ next reads stands. record { next = next; reads = rw (reads, from_le_bytes-to_le_bytes_8 n lt) refl; stands = stands })

pub word_up_to_takes : (most : ℕ) (at : Rest) (x : ℕ × Rest) → IsBytes at.bytes → word_up_to most at ≡ Ok x → Takes at (word x.0) x.1 × (x.0 ≤ most)
unfolding word_up_to
word_up_to_takes most at x fits e =
    step (word_at at) _ x e (λ n n_is rest.
    let t = word_takes at n fits n_is in
    let g = refuse_ok (ltb most n.0) at Range n x rest in
    subst (λ (y : ℕ × Rest). Takes at (word y.0) y.1 × (y.0 ≤ most)) g.1 (t.0, ltb-false _ _ g.0))

pub word_up_to_again : (most : ℕ) (at : Rest) (n : ℕ) (rest : List ℕ) → n ≤ most → n < 2 ^ 32 → at.bytes ≡ word n ++ rest → Again (word_up_to most at) n rest
unfolding word_up_to
word_up_to_again most at n rest le lt e =
    from (word_again at n rest lt e) (λ next reads stands.
    let fits : ltb most n ≡ false = le-ltb _ _ le in
    record { next = next; reads = rw (reads, fits) refl; stands = stands })

-- ---- bytes after their number

pub sized_takes : (most : ℕ) (at : Rest) (x : List ℕ × Rest) → IsBytes at.bytes → sized_up_to most at ≡ Ok x → Takes at (sized x.0) x.1 × (length x.0 ≤ most)
unfolding sized_up_to sized
sized_takes most at x fits e =
    step (word_up_to most at) _ x e (λ len len_is rest.
    let t = word_up_to_takes most at len fits len_is in
    let r = run_takes len.1 len.0 x t.0.rest_fits rest in
    (subst (λ (n : ℕ). Takes at (word n ++ x.0) x.1) (sym r.len_is) (Takes-then at (word len.0) len.1 x.0 x.1 t.0 r.takes), omega (arith, t.1, r.len_is)))

pub sized_again : (most : ℕ) (at : Rest) (bytes rest : List ℕ) → length bytes ≤ most → most < 2 ^ 32 → at.bytes ≡ sized bytes ++ rest → Again (sized_up_to most at) bytes rest
unfolding sized_up_to sized
sized_again most at bytes rest le lt e =
    from (word_up_to_again most at (length bytes) (bytes ++ rest) le (omega arith) (e ∙ append_assoc (word (length bytes)) bytes rest)) (λ next0 reads0 stands0.
    from (run_again next0 (length bytes) bytes rest refl stands0) (λ next1 reads1 stands1.
    record { next = next1; reads = rw (reads0, reads1) refl; stands = stands1 }))
