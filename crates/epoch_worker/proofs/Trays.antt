-- What a claim adds to a worker's tray and seat, and what two of them joined are.
use Rattle.std.proofs.Common.{◌≡◌, ℕ, ◌+◌, true, false, List, [], ◌∷◌, ◌++◌, map, Option, sym, ap, ap₂, subst, ◌∙◌}
use Rattle.std.specs.Prelude.{◌||◌, Bool}
use Rattle.std.specs.List.{AllZip}
use Rattle.std.proofs.Common.{append-nil, append_assoc, refl, Contains}
use Rattle.std.proofs.lemmas.List.{map-append, flat_map_more}
use Rattle.std.proofs.lemmas.List.Elements.{Contains-push}
use Rattle.std.proofs.lemmas.Grind.{flat_map-append}
use Rattle.std.proofs.lemmas.Slice.Zip.{all_zipped_more}
use Rattle.epoch_board.specs.Seats.{BoardId, SeatState, new_seat, joined}
use Rattle.epoch_core.specs.declared.post.Post.{Post}
use Rattle.epoch_core.specs.declared.post.PostValue.{PostValue}
use Rattle.epoch_worker.specs.declared.worker.Worked.{Worked}
use Rattle.epoch_worker.specs.Work.{smaller, IsDueBelow, IsDue, broken_of, HasAdded, HasFinishedFrom, HasWorked, HasFinished}

AllZip-append : {A B : Type 0} (R : A → B → Type 0) (xs us : List A) (ys vs : List B) → AllZip R xs ys → AllZip R us vs → AllZip R (xs ++ us) (ys ++ vs)
AllZip-append R [] us [] vs all more = more
AllZip-append R [] us (y ∷ ys) vs all more = absurd all
AllZip-append R (x ∷ xs) us [] vs all more = absurd all
AllZip-append R (x ∷ xs) us (y ∷ ys) vs all more = (all.0, AllZip-append R xs us ys vs all.1 more)

abbrev epoch : Post → ℕ
epoch post = post.epoch

-- a seat that claimed an epoch, looked at the least break, and told of the epoch's break where it broke
abbrev pub posted : SeatState → Option ℕ → Post → SeatState
posted seat low post = record {
  board = seat.board;
  share = seat.share;
  claims = seat.claims ++ post.epoch ∷ [];
  breaks = seat.breaks ++ broken_of post;
  seen = seat.seen ++ low ∷ [];
  told = seat.told;
}

added_more : (values : List PostValue) (tray : List Post) (old seat : SeatState) (low : Option ℕ) (post : Post)
    → HasAdded values tray old seat → IsDue values low post → HasAdded values (tray ++ post ∷ []) old (posted seat low post)
added_more values tray old seat low post added due = record {
  board = added.board;
  share = added.share;
  claims = ap (λ (claims : List ℕ). claims ++ post.epoch ∷ []) added.claims ∙ append_assoc old.claims (map epoch tray) (post.epoch ∷ [])
      ∙ ap (λ (more : List ℕ). old.claims ++ more) (sym (map-append epoch tray (post ∷ [])));
  read = added.read ++ low ∷ [];
  seen = ap (λ (seen : List (Option ℕ)). seen ++ low ∷ []) added.seen ∙ append_assoc old.seen added.read (low ∷ []);
  due = all_zipped_more (IsDue values) added.read tray low post added.due due;
  breaks = ap (λ (breaks : List ℕ). breaks ++ broken_of post) added.breaks ∙ flat_map_more broken_of old.breaks tray post;
}

-- a seat before its worker claimed an epoch
pub added_none : (values : List PostValue) (seat : SeatState) → HasAdded values [] seat seat
added_none values seat = record {
  board = refl;
  share = refl;
  claims = sym (append-nil seat.claims);
  read = [];
  seen = sym (append-nil seat.seen);
  due = tt;
  breaks = sym (append-nil seat.breaks);
}

-- a seat that began with nothing has what was added
worked_anew : (values : List PostValue) (board : BoardId) (share : ℕ) (told : Bool) (tray : List Post) (new : SeatState)
    → HasAdded values tray (new_seat board share false) new → new.told ≡ told → HasWorked values board share told tray new
worked_anew values board share told tray new added was_told = record {
  seated = (added.board, added.share, was_told, added.claims);
  due = subst (λ (seen : List (Option ℕ)). AllZip (IsDue values) seen tray) (sym added.seen) added.due;
  breaks = added.breaks;
}

pub finished_anew : (values : List PostValue) (board : BoardId) (share : ℕ) (old : SeatState) (worked : Worked)
    → old ≡ new_seat board share false → HasFinishedFrom values old worked → HasFinished values board share worked
finished_anew values board share old worked is finished =
    worked_anew values board share true worked.tray.items worked.seat
    (subst (λ (seat : SeatState). HasAdded values worked.tray.items seat worked.seat) is finished.added) finished.told

worked_joined : (values : List PostValue) (board : BoardId) (m n : ℕ) (tray more : List Post) (seat other : SeatState)
    → HasWorked values board m true tray seat → HasWorked values board n true more other → HasWorked values board (m + n) true (tray ++ more) (joined seat other)
worked_joined values board m n tray more seat other worked also = record {
  seated = (
    worked.seated.0,
    ap₂ (λ (a b : ℕ). a + b) worked.seated.1 also.seated.1,
    ap (λ b. b || other.told) worked.seated.2,
    ap₂ (λ (a b : List ℕ). a ++ b) worked.seated.3 also.seated.3 ∙ sym (map-append epoch tray more),
  );
  due = AllZip-append (IsDue values) seat.seen other.seen tray more worked.due also.due;
  breaks = ap₂ (λ (a b : List ℕ). a ++ b) worked.breaks also.breaks ∙ sym (flat_map-append broken_of tray more);
}

-- the same from the steps of a worker
pub added_on : (values : List PostValue) (tray : List Post) (old seat claimed looked told : SeatState) (k : ℕ) (low below : Option ℕ) (post : Post)
    → HasAdded values tray old seat → claimed ≡ record seat { claims = seat.claims ++ k ∷ [] } → looked ≡ record claimed { seen = claimed.seen ++ low ∷ [] }
    → told ≡ record looked { breaks = looked.breaks ++ broken_of post } → post.epoch ≡ k → below ≡ smaller low k → IsDueBelow values k below post
    → HasAdded values (tray ++ post ∷ []) old told × (told.told ≡ seat.told)
added_on values tray old seat claimed looked told k low below post added claims looks tells epoch_is below_is due =
    let due_here = subst (λ (b : Option ℕ). IsDueBelow values k b post) below_is due in
    let due_post = subst (λ (n : ℕ). IsDueBelow values n (smaller low n) post) (sym epoch_is) due_here in
    let told_is : told ≡ posted seat low post =
    tells ∙ ap (λ (s : SeatState). record s { breaks = s.breaks ++ broken_of post }) looks
    ∙ ap (λ (s : SeatState). record s { seen = s.seen ++ low ∷ []; breaks = s.breaks ++ broken_of post }) claims
    ∙ ap
    (λ (n : ℕ). record {
      board = seat.board;
      share = seat.share;
      claims = seat.claims ++ n ∷ [];
      breaks = seat.breaks ++ broken_of post;
      seen = seat.seen ++ low ∷ [];
      told = seat.told;
    })
    (sym epoch_is) in (
      subst (HasAdded values (tray ++ post ∷ []) old) (sym told_is) (added_more values tray old seat low post added due_post),
      ap (λ (s : SeatState). s.told) told_is,
    )

-- two workers, by what was joined
pub worked_and : (values : List PostValue) (board : BoardId) (m n share : ℕ) (tray more all : List Post) (seat other both : SeatState) → HasWorked values board m true tray seat → HasWorked values board n true more other → m + n ≡ share
    → both ≡ joined seat other → all ≡ tray ++ more → HasWorked values board share true all both
worked_and values board m n share tray more all seat other both worked also shares_are seats_are trays_are =
    let counted = subst (λ (k : ℕ). HasWorked values board k true (tray ++ more) (joined seat other)) shares_are (worked_joined values board m n tray more seat other worked also) in
    let seated = subst (HasWorked values board share true (tray ++ more)) (sym seats_are) counted in
    subst (λ (posts : List Post). HasWorked values board share true posts both) (sym trays_are) seated

-- an epoch that was claimed stays among the claims while the least break is looked at
pub stays_claimed : (seat claimed looked : SeatState) (k e : ℕ) (low : Option ℕ) → claimed ≡ record seat { claims = seat.claims ++ k ∷ [] }
    → looked ≡ record claimed { seen = claimed.seen ++ low ∷ [] } → e ≡ k → Contains looked.claims e
stays_claimed seat claimed looked k e low claims looks is =
    let claims_are : looked.claims ≡ seat.claims ++ k ∷ [] = ap (λ (s : SeatState). s.claims) looks ∙ ap (λ (s : SeatState). s.claims) claims in
    subst (λ (ks : List ℕ). Contains ks e) (sym claims_are)
    (subst (λ (n : ℕ). Contains (seat.claims ++ k ∷ []) n) (sym is) (Contains-push seat.claims k))
