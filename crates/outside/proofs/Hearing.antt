-- Calls that an outside heard, one after the other.
use Rattle.std.specs.Prelude.{◌&&◌, ◌==◌, if◌then◌else◌}
use Rattle.std.specs.List.{AllByRecursion, flat_map}
use Rattle.std.proofs.Common.{◌≡◌, ◌≢◌, ℕ, zero, suc, Bool, true, false, List, [], ◌∷◌, ◌++◌, length, drop, Option, Some, None, refl, sym, ap, subst, ◌∙◌}
use Rattle.std.proofs.lemmas.List.{append-nil}
use Rattle.std.proofs.KnownBytes.{Appends-trans}
use Rattle.outside.specs.declared.world.Reply.{Reply}
use Rattle.outside.specs.Written.{Adds}
use Rattle.outside.specs.World.{Heard, HearsAll, GetsReply, AreReplies, ProcessWorld, GainsIf, GainsWrite, IsByProcess, NoneFails, writes_to, written_to, failure}

-- no call
pub hears_none : {X : Type 0} (hears : X → Heard → X → Type 0) (was now : X) → now ≡ was → HearsAll hears was now []
hears_none hears was now same = same

-- one more call
pub hears_more : {X : Type 0} (hears : X → Heard → X → Type 0) (was now next : X) (calls : List Heard) (one : Heard) → HearsAll hears was now calls → hears now one next → HearsAll hears was next (calls ++ one ∷ [])
hears_more {X} hears was now next [] one same more = (next, subst (λ (x : X). hears x one next) same more, refl)
hears_more hears was now next (heard ∷ calls) one all more = (all.0, all.1, hears_more hears all.0 now next calls one all.2 more)

-- ---- replies in order

drop_none : {X : Type 0} (n : ℕ) → drop {A = X} n [] ≡ []
drop_none zero = refl
drop_none (suc n) = refl

pub replies_in_order : (replies left : List Reply) (calls : List Heard) → HearsAll GetsReply replies left calls → (left ≡ drop (length calls) replies) × AreReplies replies calls
replies_in_order replies left [] same = (same, tt)
replies_in_order [] left (heard ∷ calls) all =
    let rest = replies_in_order [] left calls (subst (λ (l : List Reply). HearsAll GetsReply l left calls) all.1.0 all.2) in
    (rest.0 ∙ drop_none (length calls), (all.1.1, all.1.2, rest.1))
replies_in_order (reply ∷ replies) left (heard ∷ calls) all =
    let rest = replies_in_order replies left calls (subst (λ (l : List Reply). HearsAll GetsReply l left calls) all.1.0 all.2) in
    (rest.0, (all.1.1, rest.1))

-- ---- writes in order

adds_nothing : (was now : Option (List ℕ)) → now ≡ was → Adds was now []
adds_nothing None now same = tt
adds_nothing (Some bytes) now same = subst (λ (o : Option (List ℕ)). Adds (Some bytes) o []) (sym same) (sym (append-nil bytes))

gains_one : (descriptor : ℕ) (heard : Heard) (was now : Option (List ℕ)) → heard.result ≢ failure → GainsWrite descriptor heard was now → Adds was now (if writes_to descriptor heard.call then heard.give else [])
gains_one descriptor heard was now fine gains = by (writes_to descriptor heard.call) gains
  where
    by : (writes : Bool) → GainsIf writes heard was now → Adds was now (if writes then heard.give else [])
    by true gains = gains fine
    by false same = adds_nothing was now same

pub writes_in_order : (was now : ProcessWorld) (calls : List Heard) → HearsAll IsByProcess was now calls → NoneFails calls → Adds was.output now.output (written_to 1 calls) × Adds was.errors now.errors (written_to 2 calls)
writes_in_order was now [] same fine =
    (adds_nothing was.output now.output (ap (λ (w : ProcessWorld). w.output) same), adds_nothing was.errors now.errors (ap (λ (w : ProcessWorld). w.errors) same))
writes_in_order was now (heard ∷ calls) all fine =
    let rest = writes_in_order all.0 now calls all.2 fine.1 in (
      Appends-trans was.output all.0.output now.output _ (written_to 1 calls) (gains_one 1 heard was.output all.0.output fine.0 all.1.output) rest.0,
      Appends-trans was.errors all.0.errors now.errors _ (written_to 2 calls) (gains_one 2 heard was.errors all.0.errors fine.0 all.1.errors) rest.1,
    )
