-- What a store of a tracer comes to.
use Rattle.std.proofs.Common.{◌≡◌, ℕ, ◌<◌, ◌≤◌, ◌+◌, true, false, Some, None, refl, arith}
use Rattle.std.specs.Prelude.{Option, is_some, unwrap_or, nat_lt}
use Rattle.std.proofs.lemmas.Bool.Decides.{nat_tests}
use Rattle.std.specs.Option.{option_map}
use Rattle.sl_model.specs.declared.instr.StoreOp.{StoreOp}
use Rattle.sl_model.specs.Arithmetic.{store_width}
use Rattle.sl_model.specs.Pages.{Pages, bytes_at, store_at}
use Rattle.tracer_lang.specs.declared.record.TracerEnd.TheVariants.{StoreFault, TooManyStores}
use Rattle.tracer_lang.specs.Meaning.{Now, Goes, Ended, stored, store_meaning, most_stores}

none_of : {A B : Type 0} (f : A → B) (o : Option A) → is_some o ≡ false → option_map f o ≡ None
none_of f None e = refl
none_of f (Some x) e = cc

some_of : {A B : Type 0} (f : A → B) (o : Option A) (d : B) → is_some o ≡ true
    → option_map f o ≡ Some (unwrap_or (option_map f o) d)
some_of f None d e = cc
some_of f (Some x) d e = refl

pub unmapped : (op : StoreOp) (address value : ℕ) (now : Now)
    → is_some (bytes_at now.pages address (store_width op)) ≡ false
    → store_meaning op address value now ≡ Ended (StoreFault address) now
unfolding store_at
unmapped op address value now e = rw (none_of _ _ e) refl

not_below : (n : ℕ) → most_stores ≤ n → nat_lt n most_stores ≡ false
not_below n h = grind (arith, nat_tests)

below : (n : ℕ) → n < most_stores → nat_lt n most_stores ≡ true
below n h = grind (arith, nat_tests)

many : (address : ℕ) (now : Now) (pages : Pages) → nat_lt now.stores most_stores ≡ false
    → stored address now (Some pages) ≡ Ended TooManyStores now
many address now pages e = rw e refl

pub too_many : (op : StoreOp) (address value : ℕ) (now : Now)
    → is_some (bytes_at now.pages address (store_width op)) ≡ true
    → most_stores ≤ now.stores
    → store_meaning op address value now ≡ Ended TooManyStores now
unfolding store_at
too_many op address value now e f =
    rw (some_of _ _ now.pages e) (many address now _ (not_below _ f))

few : (address : ℕ) (now : Now) (pages : Pages) → nat_lt now.stores most_stores ≡ true
    → stored address now (Some pages)
    ≡ Goes 0 (record now { pages = pages; stores = now.stores + 1 })
few address now pages e = rw e refl

pub done : (op : StoreOp) (address value : ℕ) (now : Now) (after : Pages)
    → is_some (bytes_at now.pages address (store_width op)) ≡ true
    → now.stores < most_stores
    → after ≡ unwrap_or (store_at now.pages address (store_width op) value) now.pages
    → store_meaning op address value now
    ≡ Goes 0 (record now { pages = after; stores = now.stores + 1 })
unfolding store_at
done op address value now after e f same =
    rw (same, some_of _ _ now.pages e) (few address now _ (below _ f))
