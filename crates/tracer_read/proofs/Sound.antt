-- Steps that may fail, and what holds where they don't.
use Rattle.std.proofs.Common.{◌≡◌, ℕ, ◌&&◌, Bool, true, false, not, cond, max, ◌+◌, Option, Some, None, Result, Ok, Err, IfOk, IfSome, refl}
use Rattle.tracer_text.specs.declared.fault.ScriptCause.{ScriptCause}
use Rattle.tracer_text.specs.declared.fault.ScriptFault.{ScriptFault}
use Rattle.tracer_text.specs.Nodes.{Tree, atom, list, Trees, no_trees, tree}
use Rattle.tracer_read.specs.Parts.{◌>>=◌, or_fault, unless}

pub IfOk-bind : {A B : Type 0} (r : Result A ScriptFault) (f : A → Result B ScriptFault)
    (P : A → Type 0) (Q : B → Type 0)
    → IfOk r P → ((x : A) → P x → IfOk (f x) Q) → IfOk (r >>= f) Q
IfOk-bind (Ok x) f P Q h k = k x h
IfOk-bind (Err e) f P Q h k = tt

-- where it matters that the first step gave its value
pub IfOk-then : {A B : Type 0} (r : Result A ScriptFault) (f : A → Result B ScriptFault)
    (Q : B → Type 0)
    → ((x : A) → r ≡ Ok x → IfOk (f x) Q) → IfOk (r >>= f) Q
IfOk-then (Ok x) f Q k = k x refl
IfOk-then (Err e) f Q k = tt

pub IfOk-unless : {A : Type 0} (b : Bool) (place : ℕ) (cause : ScriptCause)
    (r : Result A ScriptFault) (Q : A → Type 0)
    → (b ≡ false → IfOk r Q) → IfOk (unless b place cause r) Q
IfOk-unless true place cause r Q k = tt
IfOk-unless false place cause r Q k = k refl

pub IfOk-or_fault : {A : Type 0} (place : ℕ) (cause : ScriptCause) (o : Option A) (Q : A → Type 0)
    → IfSome o Q → IfOk (or_fault place cause o) Q
IfOk-or_fault place cause (Some x) Q h = h
IfOk-or_fault place cause None Q h = tt

pub IfOk-weaker : {A : Type 0} (r : Result A ScriptFault) (P Q : A → Type 0)
    → IfOk r P → ((x : A) → P x → Q x) → IfOk r Q
IfOk-weaker (Ok x) P Q h k = k x h
IfOk-weaker (Err e) P Q h k = tt

pub IfOk-cond : {A : Type 0} (b : Bool) (x y : Result A ScriptFault) (P : A → Type 0)
    → (b ≡ true → IfOk x P) → IfOk y P → IfOk (cond b x y) P
IfOk-cond true x y P h k = h refl
IfOk-cond false x y P h k = k

pub IfSome-cond : {A : Type 0} (b : Bool) (x y : Option A) (P : A → Type 0)
    → (b ≡ true → IfSome x P) → IfSome y P → IfSome (cond b x y) P
IfSome-cond true x y P h k = h refl
IfSome-cond false x y P h k = k

pub both_true : (a b : Bool) → (a && b) ≡ true → (a ≡ true) × (b ≡ true)
both_true true b h = (refl, h)
both_true false b h = absurd cc

pub not_false : (b : Bool) → not b ≡ false → b ≡ true
not_false true h = refl
not_false false h = cc
