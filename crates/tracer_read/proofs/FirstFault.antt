-- The first fault of some nodes, as the reader comes to it.
use Rattle.std.proofs.Common.{◌≡◌, ℕ, ◌≤◌, Bool, true, false, cond, List, [], ◌∷◌, ◌++◌, Option, Some, None, Result, Ok, Err, inl, inr, refl, sym, ap, subst, ◌∙◌, arith}
use Rattle.std.specs.List.{All, Contains}
use Rattle.std.specs.Option.{option_or, is_some}
use Rattle.std.specs.Prelude.{nat_le}
use Rattle.std.proofs.lemmas.Bool.{false≢true, cases_Bool, leb-true, leb-false}
use Rattle.std.proofs.lemmas.List.Elements.{All-cons, All-nil, All-weaker, Contains-append_right}
use Rattle.tracer_text.specs.declared.fault.ScriptCause.{ScriptCause}
use Rattle.tracer_text.specs.declared.fault.ScriptFault.{ScriptFault}
use Rattle.tracer_text.specs.FirstPass.{fault, first_of}
use Rattle.tracer_read.specs.Parts.{◌>>=◌}
use Rattle.tracer_read.specs.Findings.{Finding, finding, rank, IsClean, IsFirstFault}

-- ---- the first of some findings

abbrev pub lower : ScriptCause → Option ScriptCause → Option ScriptCause
lower cause None = Some cause
lower cause (Some other) = cond (nat_le (rank cause) (rank other)) (Some cause) (Some other)

abbrev pub least : List ScriptCause → Option ScriptCause
least [] = None
least (cause ∷ more) = lower cause (least more)

abbrev pub first : List Finding → Option ScriptFault
first [] = None
first (found ∷ more) = first_of found.place (least found.causes) (first more)

abbrev IsLeastOf : List ScriptCause → ScriptCause → Type 0
IsLeastOf causes cause = Contains causes cause × All (λ other. rank cause ≤ rank other) causes

here : (x : ScriptCause) (xs : List ScriptCause) → Contains (x ∷ xs) x
here x xs = (0, omega arith, refl)

no_cause : (cause : ScriptCause) → None ≡ Some cause → ⊥
no_cause cause same = false≢true (ap (λ (o : Option ScriptCause). is_some o) same)

abbrev cause_in : Option ScriptCause → ScriptCause → ScriptCause
cause_in None cause = cause
cause_in (Some cause) other = cause

lower_is : (cause : ScriptCause) (more : List ScriptCause) (o : Option ScriptCause)
    → ((c : ScriptCause) → o ≡ Some c → IsLeastOf more c) → (o ≡ None → more ≡ [])
    → (c : ScriptCause) → lower cause o ≡ Some c → IsLeastOf (cause ∷ more) c
lower_is cause more None some none c is =
    let same : cause ≡ c = ap (λ (o : Option ScriptCause). cause_in o cause) is in
    subst (IsLeastOf (cause ∷ more)) same (
      here cause more,
      subst (λ (cs : List ScriptCause). All (λ other. rank cause ≤ rank other) (cause ∷ cs))
          (sym (none refl))
          (All-cons (λ (o : ScriptCause). rank cause ≤ rank o) cause [] (omega arith)
          (All-nil (λ (o : ScriptCause). rank cause ≤ rank o))),
    )
lower_is cause more (Some other) some none c is =
    let rest = some other refl in
    elim (cases_Bool (nat_le (rank cause) (rank other))) [
      | inl up ↦
          let same : cause ≡ c = ap (λ (o : Option ScriptCause). cause_in o cause)
          (sym (ap (λ (b : Bool). cond b (Some cause) (Some other)) up) ∙ is) in
          let le = leb-true (rank cause) (rank other) up in
          subst (IsLeastOf (cause ∷ more)) same (
            here cause more,
            All-cons (λ (o : ScriptCause). rank cause ≤ rank o) cause more (omega arith)
                (All-weaker (λ (o : ScriptCause). rank other ≤ rank o)
                (λ (o : ScriptCause). rank cause ≤ rank o) (λ o more. omega (arith, le, more)) more rest.1),
          )
      | inr down ↦
          let same : other ≡ c = ap (λ (o : Option ScriptCause). cause_in o cause)
          (sym (ap (λ (b : Bool). cond b (Some cause) (Some other)) down) ∙ is) in
          let less = leb-false (rank cause) (rank other) down in
          subst (IsLeastOf (cause ∷ more)) same (
            Contains-append_right (cause ∷ []) more other rest.0,
            All-cons (λ (o : ScriptCause). rank other ≤ rank o) cause more
                (omega (arith, less)) rest.1,
          )
    ]

lower_some : (cause : ScriptCause) (o : Option ScriptCause) → lower cause o ≡ None → ⊥
lower_some cause None is = no_cause cause (sym is)
lower_some cause (Some other) is = elim (cases_Bool (nat_le (rank cause) (rank other))) [
  | inl up ↦
      no_cause cause (sym is ∙ ap (λ (b : Bool). cond b (Some cause) (Some other)) up)
  | inr down ↦
      no_cause other (sym is ∙ ap (λ (b : Bool). cond b (Some cause) (Some other)) down)
]

none_least : (causes : List ScriptCause) → least causes ≡ None → causes ≡ []
none_least [] is = refl
none_least (cause ∷ more) is = absurd (lower_some cause (least more) is)

least_is : (causes : List ScriptCause) (c : ScriptCause) → least causes ≡ Some c
    → IsLeastOf causes c
least_is [] c is = absurd (no_cause c is)
least_is (cause ∷ more) c is =
    lower_is cause more (least more) (least_is more) (none_least more) c is

abbrev fault_in : Option ScriptFault → ScriptFault → ScriptFault
fault_in None other = other
fault_in (Some fault) other = fault

no_fault : (fault : ScriptFault) → None ≡ Some fault → ⊥
no_fault fault same = false≢true (ap (λ (o : Option ScriptFault). is_some o) same)

later_is : (found : Finding) (more : List Finding) (o : Option ScriptCause) (told : ScriptFault)
    → least found.causes ≡ o
    → ((f : ScriptFault) → first more ≡ Some f → IsFirstFault more f)
    → first_of found.place o (first more) ≡ Some told → IsFirstFault (found ∷ more) told
later_is found more None told clean rest is =
    let later = rest told is in
    record {
      before = found ∷ later.before;
      node = later.node;
      behind = later.behind;
      order = ap (λ (xs : List Finding). found ∷ xs) later.order;
      clean = All-cons IsClean found later.before (none_least found.causes clean) later.clean;
      place = later.place;
      cause = later.cause;
      first = later.first;
    }
later_is found more (Some cause) told due rest is =
    let same : fault found.place cause ≡ told =
    ap (λ (o : Option ScriptFault). fault_in o told) is in
    let best = least_is found.causes cause due in
    subst (IsFirstFault (found ∷ more)) same (record {
      before = [];
      node = found;
      behind = more;
      order = refl;
      clean = All-nil IsClean;
      place = refl;
      cause = best.0;
      first = best.1;
    })

pub first_is : (found : List Finding) (told : ScriptFault) → first found ≡ Some told
    → IsFirstFault found told
first_is [] told is = absurd (no_fault told is)
first_is (found ∷ more) told is =
    later_is found more (least found.causes) told refl (first_is more) is

all_clean : (found : Finding) (more : List Finding) (o : Option ScriptCause)
    → least found.causes ≡ o → (first more ≡ None → All IsClean more)
    → first_of found.place o (first more) ≡ None → All IsClean (found ∷ more)
all_clean found more None clean rest is =
    All-cons IsClean found more (none_least found.causes clean) (rest is)
all_clean found more (Some cause) due rest is =
    absurd (no_fault (fault found.place cause) (sym is))

pub none_is_clean : (found : List Finding) → first found ≡ None → All IsClean found
none_is_clean [] is = All-nil IsClean
none_is_clean (found ∷ more) is =
    all_clean found more (least found.causes) refl (none_is_clean more) is

pub first-append : (xs ys : List Finding) → first (xs ++ ys) ≡ option_or (first xs) (first ys)
first-append [] ys = refl
first-append (x ∷ xs) ys =
    ap (first_of x.place (least x.causes)) (first-append xs ys)
    ∙ past x.place (least x.causes) (first xs) (first ys)
  where
    past : (place : ℕ) (o : Option ScriptCause) (f g : Option ScriptFault)
        → first_of place o (option_or f g) ≡ option_or (first_of place o f) g
    past place None f g = refl
    past place (Some cause) f g = refl

-- ---- what the reader tells

-- a fault where there is a first one, else a value of which this is known
abbrev pub Told : {A : Type 0} → (A → Type 0) → Option ScriptFault → Result A ScriptFault → Type 0
Told Q o (Ok x) = (o ≡ None) × Q x
Told Q o (Err f) = o ≡ Some f

abbrev pub Anything : {A : Type 0} → A → Type 0
Anything x = Unit {0}

pub front : {A : Type 0} (Q : A → Type 0) (o p : Option ScriptFault) (r : Result A ScriptFault)
    → o ≡ None → Told Q p r → Told Q (option_or o p) r
front Q o p (Ok x) none told =
    (ap (λ (u : Option ScriptFault). option_or u p) none ∙ told.0, told.1)
front Q o p (Err f) none told = ap (λ (u : Option ScriptFault). option_or u p) none ∙ told

pub bound : {A B : Type 0} (Q : A → Type 0) (R : B → Type 0) (o p : Option ScriptFault)
    (r : Result A ScriptFault) (g : A → Result B ScriptFault) → Told Q o r
    → ((x : A) → Q x → Told R p (g x)) → Told R (option_or o p) (r >>= g)
bound Q R o p (Ok x) g told next = front R o p (g x) told.0 (next x told.1)
bound Q R o p (Err f) g told next = ap (λ (u : Option ScriptFault). option_or u p) told

-- the same of findings one after the other
pub bound_row : {A B : Type 0} (Q : A → Type 0) (R : B → Type 0) (xs ys : List Finding)
    (r : Result A ScriptFault) (g : A → Result B ScriptFault) → Told Q (first xs) r
    → ((x : A) → Q x → Told R (first ys) (g x)) → Told R (first (xs ++ ys)) (r >>= g)
bound_row Q R xs ys r g told next =
    subst (λ (o : Option ScriptFault). Told R o (r >>= g)) (sym (first-append xs ys))
    (bound Q R (first xs) (first ys) r g told next)

-- what is made of a value alone
pub made : {A B : Type 0} (Q : A → Type 0) (R : B → Type 0) (o : Option ScriptFault)
    (r : Result A ScriptFault) (g : A → B) → ((x : A) → Q x → R (g x)) → Told Q o r
    → Told R o (r >>= λ x. Ok (g x))
made Q R o (Ok x) g step told = (told.0, step x told.1)
made Q R o (Err f) g step told = told

pub >>=-association : {A B C : Type 0} (r : Result A ScriptFault)
    (f : A → Result B ScriptFault) (g : B → Result C ScriptFault)
    → ((r >>= f) >>= g) ≡ (r >>= λ x. (f x >>= g))
>>=-association (Ok x) f g = refl
>>=-association (Err e) f g = refl
