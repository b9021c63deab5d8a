use Rattle.std.proofs.Common.{◌≡◌, ◌∷◌, [], ◌++◌, length, arith}
use Rattle.rec_format.specs.declared.listings.Listing.{Listing}
use Rattle.rec_format.proofs.LastListing.{IsIndex-push}
use Rattle.rec_format.proofs.listings.Listings.add.Goals as goal

pub invariant_of-self-2 : goal.invariant_of-self-2
invariant_of-self-2 c =
    let all = c.self.inside.all.items in
    let x : Listing = record { number = c.args.number; bytes = c.args.bytes } in
    let same : c.push.new.self.items ≡ all ++ x ∷ [] = grind (arith) in
    let len : c.len.result ≡ length all = grind arith in
    rw same (IsIndex-push c.self.inside.last c.insert.new.self all x (rw (← len) c.in_ok-insert.ensures.updates.0) c.self.invariant)
