-- What each call of the table requires.
use Rattle.std.proofs.Common.{◌≡◌, ℕ, ◌+◌, ◌%◌, ◌<◌, ◌≤◌, ◌^◌, min, true, false, List, [], ◌∷◌, ◌++◌, set, All, Contains, refl, sym, ap, subst, ⊎_elim, arith}
use Rattle.std.specs.Prelude.{slice_index, nat_lt}
use Rattle.std.proofs.lemmas.Bool.{cases_lt, cond-true, cond-false, lt-ltb, le-ltb}
use mathlib.Core.Option.{Option}
use Rattle.atomic_table.specs.Seated.{TableId}
use Rattle.atomic_table.specs.Table.{State, Me, Act, keeps, Valid, carried_after, stepped, Allows, Splits, Joins, Final, Seen}
use Rattle.epoch_board.specs.declared.view.View.{View}
use Rattle.epoch_board.specs.Views.{spent, seat_of, claimed, looked, lowered, kept, given, merged}
use Rattle.epoch_board.specs.Rule.{IsActive, IsKept, IsBoard}
use Rattle.epoch_board.proofs.Keeps.{next_small, active_at, claims_epoch, claims_rise, claims_none, looks, lowers, splits, joins, IsWhole, closes}

module _ {S : Type 0} where
  abbrev table : List ℕ → List (Option S) → List View → State S View
  table words homes views = record { words = words; homes = homes; views = views }

  -- what a step on the word i owes, at these words
  abbrev Goes : ℕ → ℕ → ℕ → Me S View → ℕ → (ℕ → ℕ) → (ℕ → Me S View → Type 0) → List (Option S) → List View → List ℕ → Type 0
  Goes epochs seats id me i f then homes views words =
      (w : View) × (a : Act S) × Valid homes me.1 a
      × IsBoard epochs seats (stepped (table words homes views) i (f (slice_index words i)) id me.1 w a)
      × then (slice_index words i) (w, carried_after me.1 a)

  -- what a claim, a load and a break tell
  abbrev Claimed : Me S View → ℕ → Me S View → Type 0
  Claimed me drawn after = (after ≡ (claimed me.0 drawn, me.1)) × All (λ c. c < drawn) me.0.claims

  abbrev Looked : Me S View → ℕ → Me S View → Type 0
  Looked me word after = after ≡ (looked me.0 word, me.1)

  abbrev Lowered : Me S View → ℕ → ℕ → Me S View → Type 0
  Lowered me k word after = after ≡ (lowered me.0 k, me.1)

  pub claims : (epochs seats slots id : ℕ) (me : Me S View) → 0 < me.0.share → me.0.told ≡ false
      → Allows (IsBoard epochs seats) slots id me 0 (λ n. (n + 1) % 2 ^ 64) (Claimed me)
  claims epochs seats slots id me has_share not_told s b wide at fits =
      subst (Goes epochs seats id me 0 (λ n. (n + 1) % 2 ^ 64) (Claimed me) s.homes s.views) (sym b.words) (⊎_elim below above (cases_lt b.next epochs))
    where
      next_word : (b.next + 1) % 2 ^ 64 ≡ b.next + 1
      next_word = omega (arith, next_small b.kept)

      a : IsActive epochs seats me.0
      a = active_at b.kept id me.0 at has_share

      goes : (w : View) → IsKept epochs seats (b.next + 1) b.low (set s.views id w) → w ≡ claimed me.0 b.next
          → Goes epochs seats id me 0 (λ n. (n + 1) % 2 ^ 64) (Claimed me) s.homes s.views (b.next ∷ b.low ∷ [])
      goes w k is = (
        w,
        keeps,
        tt,
        record { next = b.next + 1; low = b.low; words = ap (λ n. n ∷ b.low ∷ []) next_word; kept = k },
        (ap (λ v. (v, me.1)) is, claims_rise b.kept id me.0 at has_share),
      )

      below : b.next < epochs → Goes epochs seats id me 0 (λ n. (n + 1) % 2 ^ 64) (Claimed me) s.homes s.views (b.next ∷ b.low ∷ [])
      below within = goes (record me.0 { claims = me.0.claims ++ b.next ∷ [] })
          (claims_epoch b.kept id me.0 at has_share within)
          (sym (cond-true (nat_lt b.next me.0.epochs) _ _ (lt-ltb b.next me.0.epochs (omega (arith, a.same_epochs)))))

      above : epochs ≤ b.next → Goes epochs seats id me 0 (λ n. (n + 1) % 2 ^ 64) (Claimed me) s.homes s.views (b.next ∷ b.low ∷ [])
      above past = goes (record me.0 { told = true })
          (claims_none b.kept id me.0 at has_share not_told past)
          (sym (cond-false (nat_lt b.next me.0.epochs) _ _ (le-ltb b.next me.0.epochs (omega (arith, a.same_epochs)))))

  pub looks_at : (epochs seats slots id : ℕ) (me : Me S View) → 0 < me.0.share
      → Allows (IsBoard epochs seats) slots id me 1 (λ n. n) (Looked me)
  looks_at epochs seats slots id me has_share s b wide at fits =
      subst (Goes epochs seats id me 1 (λ n. n) (Looked me) s.homes s.views) (sym b.words) (
        looked me.0 b.low,
        keeps,
        tt,
        record { next = b.next; low = b.low; words = refl; kept = looks b.kept id me.0 at has_share },
        refl,
      )

  pub lowers_to : (epochs seats slots id : ℕ) (me : Me S View) (k : ℕ) → 0 < me.0.share → Contains me.0.claims k
      → Allows (IsBoard epochs seats) slots id me 1 (λ n. min n k) (Lowered me k)
  lowers_to epochs seats slots id me k has_share claimed_k s b wide at fits =
      subst (Goes epochs seats id me 1 (λ n. min n k) (Lowered me k) s.homes s.views) (sym b.words) (
        lowered me.0 k,
        keeps,
        tt,
        record { next = b.next; low = min b.low k; words = refl; kept = lowers b.kept id me.0 at has_share k claimed_k },
        refl,
      )

  pub parts : (epochs seats id : ℕ) (v : View) → 2 ≤ v.share → Splits (IsBoard {S = S} epochs seats) id v (kept v) (given v)
  parts epochs seats id v two s b at =
      record { next = b.next; low = b.low; words = b.words; kept = splits b.kept id v at (omega arith) two }

  pub merges : (epochs seats id other : ℕ) (v w : View) → 0 < v.share → 0 < w.share
      → Joins (IsBoard {S = S} epochs seats) id v other w (merged v w) spent
  merges epochs seats id other v w has_v has_w s b at apart there =
      record { next = b.next; low = b.low; words = b.words; kept = joins b.kept id v at has_v other w has_w apart there }

  pub ends : (epochs seats : ℕ) (name : TableId) (id : ℕ) (v : View) (words : List ℕ) (slots : List S) → 0 < v.share → v.share ≡ seats
      → Final (Seen (IsBoard epochs seats) id v) words slots → IsWhole epochs (seat_of name v)
  ends epochs seats name id v words slots has_share has_all final = closes final.1.0.kept name id v final.1.1 has_share has_all
