-- All epochs together are the one run.
use Rattle.std.specs.Prelude.{slice_get}
use Rattle.std.proofs.Common.{◌≡◌, ◌≢◌, ◌⊎◌, ⊎_elim, ◌↔◌, ℕ, zero, suc, ◌+◌, ◌<◌, List, ◌++◌, length, map, Option, Some, None, Result, Ok, Err, inl, inr, refl, sym, ap, ◌∙◌, arith}
use Rattle.std.specs.List.{flat_map, range_with_len}
use Rattle.std.proofs.lemmas.List.Concat.{flat_map-cons}
use Rattle.std.proofs.lemmas.List.FromFn.{length-range_with_len, get_or-range_with_len, length-map-range_with_len}
use Rattle.std.proofs.lemmas.Bool.{cases_eq}
use Rattle.std.proofs.lemmas.Option.{slice_get-map, slice_get-get_or, slice_get_within}
use Rattle.std.specs.Option.{option_map}
use Rattle.call_log.specs.declared.breaks.Break.{Break}
use Rattle.tracer_lang.specs.declared.record.Record.{Record}
use Rattle.analysers.specs.declared.kind.Kind.{Kind}
use Rattle.analysers.specs.declared.merged.Merged.{Merged}
use Rattle.analysers.specs.Pieces.{parts_of, merged_of}
use Rattle.epoch_core.specs.declared.post.PostValue.{PostValue}
use Rattle.epoch_core.specs.declared.post.PostValue.TheVariants as post
use Rattle.epoch_run.specs.declared.plan.Plan.{Plan}
use Rattle.epoch_run.specs.EpochLaws.{epochs_of, FirstBrokeIsFirst, AllRanAreTheRun}
use Rattle.epoch_run.specs.Plans.{tracers_of, value_in, values_of, posted}
use Rattle.epoch_run.specs.Records.{records}
use Rattle.replay.specs.Breaks.{first_break}
use Rattle.checkpoints.specs.RecordedRun.{opened_of}
use Rattle.ordered_merge.specs.Merged.{merged, records_in, BreaksFirstAt, NoneBroke}
use Rattle.sledge_top.specs.Runs.{run_value, run_in}

module _ (kinds : List Kind) where
  -- what an epoch comes to
  abbrev Value : Type 0
  Value = Result (List Record) Break

  -- the posts of the first n epochs
  abbrev posts : (ℕ → Value) → ℕ → List PostValue
  posts value n = map (λ k. posted kinds (value k)) (range_with_len 0 n)

  -- what an epoch leaves
  abbrev left : (ℕ → Value) → ℕ → List Record
  left value k = records_in (posted kinds (value k))

  -- each of the first n epochs ran
  abbrev Ran : (ℕ → Value) → (ℕ → List Record) → ℕ → Type 0
  Ran value all n = (k : ℕ) → k < n → value k ≡ Ok (all k)

  -- or one of them is the first that broke
  pub record Breaks (value : ℕ → Value) (n : ℕ) : Type 0 where
    pub k : ℕ
    pub first : Break
    pub below : k < n
    pub before : Ran value (left value) k
    pub here : value k ≡ Err first

  -- ---- the first that broke, if there is one

  ran_more : (value : ℕ → Value) (n : ℕ) (all : List Record) → value n ≡ Ok all → Ran value (left value) n → Ran value (left value) (suc n)
  ran_more value n all is ran k lt =
      ⊎_elim (λ (same : k ≡ n). let here : value k ≡ Ok all = ap value same ∙ is in here ∙ ap Ok (sym (ap (λ v. records_in (posted kinds v)) here))) (λ (apart : k ≡ n → ⊥). ran k (omega arith)) (cases_eq k n)

  more : (value : ℕ → Value) (n : ℕ) (here : Value) → value n ≡ here → Ran value (left value) n → Ran value (left value) (suc n) ⊎ Breaks value (suc n)
  more value n (Ok all) is ran = inl (ran_more value n all is ran)
  more value n (Err first) is ran = inr (record { k = n; first = first; below = omega arith; before = ran; here = is })

  further : (value : ℕ → Value) (n : ℕ) → Breaks value n → Breaks value (suc n)
  further value n b = record { k = b.k; first = b.first; below = omega (arith, b.below); before = b.before; here = b.here }

  least : (value : ℕ → Value) (n : ℕ) → Ran value (left value) n ⊎ Breaks value n
  least value zero = inl (λ k lt. absurd (omega (arith, lt)))
  least value (suc n) =
      ⊎_elim (λ (ran : Ran value (left value) n). more value n (value n) refl ran) (λ (b : Breaks value n). inr (further value n b)) (least value n)

  -- ---- the posts

  got : (value : ℕ → Value) (n k : ℕ) → k < n → slice_get (posts value n) k ≡ Some (posted kinds (value k))
  got value n k lt =
      let numbers = range_with_len 0 n in
      let at_zero : 0 + k ≡ k = omega arith in
      let number : slice_get numbers k ≡ Some k = slice_get-get_or numbers k 0 (omega (arith, length-range_with_len 0 n)) ∙ ap Some (get_or-range_with_len 0 n k 0 lt ∙ at_zero) in
      slice_get-map (λ (i : ℕ). posted kinds (value i)) numbers k ∙ ap (option_map (λ (i : ℕ). posted kinds (value i))) number

  no_break : (value : ℕ → Value) (n k : ℕ) (all : List Record) (first : Break) → k < n → value k ≡ Ok all → slice_get (posts value n) k ≢ Some (post.Broke first)
  no_break value n k all first lt ran is =
      let both : Some (post.Ran all (parts_of kinds all)) ≡ Some (post.Broke first) = ap (λ (v : Value). Some (posted kinds v)) (sym ran) ∙ sym (got value n k lt) ∙ is in
      absurd cc

  none_broke : (value : ℕ → Value) (n : ℕ) → Ran value (left value) n → NoneBroke (posts value n)
  none_broke value n ran k first is =
      let long : length (posts value n) ≡ n = length-map-range_with_len (λ (i : ℕ). posted kinds (value i)) 0 n in
      let lt : k < n = omega (arith, slice_get_within (posts value n) k (post.Broke first) is, long) in
      no_break value n k (left value k) first lt (ran k lt) is

  all_left : (value : ℕ → Value) (a n : ℕ) → flat_map records_in (map (λ k. posted kinds (value k)) (range_with_len a n)) ≡ flat_map (left value) (range_with_len a n)
  all_left value a zero = refl
  all_left value a (suc n) =
      let rest = range_with_len (a + 1) n in
      flat_map-cons records_in (posted kinds (value a)) (map (λ k. posted kinds (value k)) rest) ∙ ap (λ (r : List Record). left value a ++ r) (all_left value (a + 1) n) ∙ sym (flat_map-cons (left value) a rest)

  -- ---- the whole

  abbrev pub MergesBroken : Type 0
  MergesBroken = (values : List PostValue) (first : Break) → (merged kinds values ≡ Err first) ↔ ((k : ℕ) × BreaksFirstAt values k first)

  abbrev pub MergesRun : Type 0
  MergesRun = (values : List PostValue) (whole : Merged) → (merged kinds values ≡ Ok whole) ↔ (NoneBroke values × (whole ≡ merged_of kinds (flat_map records_in values)))

  whole : (value : ℕ → Value) (n : ℕ) (break : Option Break) (all : List Record) → MergesBroken → MergesRun
      → ((each : ℕ → List Record) (k : ℕ) (first : Break) → k < n → Ran value each k → value k ≡ Err first → break ≡ Some first)
      → ((each : ℕ → List Record) → Ran value each n → (break ≡ None) × (flat_map each (range_with_len 0 n) ≡ all)) → merged kinds (posts value n) ≡ run_value break (merged_of kinds all)
  whole value n break all merges-broken merges-run broke ran =
      ⊎_elim
      (λ (each : Ran value (left value) n).
      let both = ran (left value) each in
      (merges-run (posts value n) (merged_of kinds (flat_map records_in (posts value n)))).1 (none_broke value n each, refl)
      ∙ ap (λ (left : List Record). Ok (merged_of kinds left)) (all_left value 0 n ∙ both.1) ∙ ap (λ (b : Option Break). run_value b (merged_of kinds all)) (sym both.0))
      (λ (b : Breaks value n).
      let here : slice_get (posts value n) b.k ≡ Some (post.Broke b.first) = got value n b.k b.below ∙ ap (λ (v : Value). Some (posted kinds v)) b.here in
      (merges-broken (posts value n) b.first).1
      (b.k, record { broke = here; least = λ j earlier lt. no_break value n j (left value j) earlier (omega (arith, lt, b.below)) (b.before j lt) })
      ∙ ap (λ (break : Option Break). run_value break (merged_of kinds all)) (sym (broke (left value) b.k b.first b.below b.before b.here)))
      (least value n)

-- what the epochs of a plan come to, merged, is what its one run comes to
pub merged_is_run : (plan : Plan) → MergesBroken plan.kinds → MergesRun plan.kinds → FirstBrokeIsFirst plan.checkpoints.rec (opened_of plan.checkpoints) (tracers_of plan) plan.cutting
    → AllRanAreTheRun plan.checkpoints.rec (opened_of plan.checkpoints) (tracers_of plan) plan.cutting → merged plan.kinds (values_of plan) ≡ run_in plan
unfolding value_in
merged_is_run plan merges-broken merges-run broke ran =
    let rec = plan.checkpoints.rec in
    let opened = opened_of plan.checkpoints in
    whole plan.kinds (value_in plan) (epochs_of plan.cutting) (first_break rec opened) (records rec (tracers_of plan) opened) merges-broken merges-run broke ran
