-- The state that a checkpoint records: its pages, and that it is one that a run could have.
use Rattle.std.specs.Prelude.{if◌then◌else◌, ◌||◌, ◌==◌, IfSome, is_some, unwrap_or}
use Rattle.std.specs.Option.{option_map}
use Rattle.std.specs.FinMap.{get, insert, contains_key, gets}
use Rattle.std.proofs.Common.{◌≡◌, ℕ, zero, suc, ◌+◌, ◌-◌, ◌/◌, ◌%◌, ◌≤◌, Bool, true, false, cond, List, [], ◌∷◌, length, Option, Some, None, ⊎_elim, refl, sym, ap, subst, ◌∙◌, arith, eq-eqb, ne_eqb}
use Rattle.std.proofs.lemmas.Bool.{cases_eq}
use Rattle.std.proofs.lemmas.Grind.{common_steps}
use Rattle.std.proofs.lemmas.List.{length-replicate}
use Rattle.sl_model.specs.Pages.{Pages}
use Rattle.sl_model.proofs.PagesLaws.{AreWhole}
use Rattle.rec_format.specs.Rules.{IsRecordingValue}
use Rattle.rec_format.specs.declared.recording.Recording.{Recording}
use Rattle.rec_format.specs.declared.recording.CheckpointData.{CheckpointData}
use Rattle.rec_format.specs.declared.recording.ListedPage.{ListedPage}
use Rattle.sl_model.specs.Mapping.{zero_page, map_pages}
use Rattle.rec_format.specs.Recorded.{listed_to, last_listing, recorded_page, recorded_end, put_listed, put_all_listed, recorded_pages, recorded_state_of, recorded_state, recorded_count, checkpoint_at}
use Rattle.sl_model.proofs.Mapping.{or_zeros, is_among, get-map_pages}
use Rattle.sl_model.specs.State.{State, Fits, IsOpening}
use Rattle.sl_model.proofs.Fitting.{Fits-grows}
use Rattle.rec_format.proofs.Listed.{all_listed_to, length-last_listing, IsCheckpoint-at}
use Rattle.rec_format.proofs.InRun.{IsInRun, IsInRun-opened, Grows-run, heap_of, is_mapped}

-- ---- listed pages in memory

-- a listing over what stood there
abbrev relisted : ListedPage → ℕ → List ℕ → List ℕ
relisted page number old = if page.number == number then page.bytes else old

get-put_listed : (pages : Pages) (page : ListedPage) (number : ℕ) → get (put_listed pages page) number ≡ option_map (relisted page number) (get pages number)
get-put_listed pages page number = ⊎_elim
    (λ (same : page.number ≡ number). at (contains_key pages page.number) refl same)
    (λ (apart : page.number ≡ number → ⊥). other (contains_key pages page.number) apart)
    (cases_eq page.number number)
  where
    there : (old : Option (List ℕ)) → is_some old ≡ true → page.number ≡ number → Some page.bytes ≡ option_map (relisted page number) old
    there None is same = absurd cc
    there (Some old) is same = rw (eq-eqb page.number number same) refl

    gone : (old : Option (List ℕ)) → is_some old ≡ false → old ≡ option_map (relisted page number) old
    gone None is = refl
    gone (Some old) is = absurd cc

    stays : (old : Option (List ℕ)) → (page.number ≡ number → ⊥) → old ≡ option_map (relisted page number) old
    stays None apart = refl
    stays (Some old) apart = rw (ne_eqb page.number number apart) refl

    at : (mapped : Bool) → contains_key pages page.number ≡ mapped → page.number ≡ number → get (if mapped then insert pages page.number page.bytes else pages) number ≡ option_map (relisted page number) (get pages number)
    at true is same = grind (arith, gets, common_steps, same) ∙ there (get pages number) (rw (← same) is) same
    at false is same = gone (get pages number) (rw (← same) is)

    other : (mapped : Bool) → (page.number ≡ number → ⊥) → get (if mapped then insert pages page.number page.bytes else pages) number ≡ option_map (relisted page number) (get pages number)
    other true apart = grind (arith, gets, common_steps, apart) ∙ stays (get pages number) apart
    other false apart = stays (get pages number) apart

map_twice : (f g : List ℕ → List ℕ) (old : Option (List ℕ)) → option_map f (option_map g old) ≡ option_map (λ page. f (g page)) old
map_twice f g None = refl
map_twice f g (Some old) = refl

map_same : (old : Option (List ℕ)) → old ≡ option_map (λ page. page) old
map_same None = refl
map_same (Some old) = refl

pub get-put_all_listed : (pages : Pages) (listed : List ListedPage) (number : ℕ) → get (put_all_listed pages listed) number ≡ option_map (λ old. last_listing old listed number) (get pages number)
unfolding put_all_listed
get-put_all_listed pages [] number = map_same (get pages number)
get-put_all_listed pages (page ∷ listed) number =
    get-put_all_listed (put_listed pages page) listed number
    ∙ ap (option_map (λ old. last_listing old listed number)) (get-put_listed pages page number)
    ∙ map_twice (λ old. last_listing old listed number) (relisted page number) (get pages number)

-- ---- the recorded pages

map_or_zeros : (f : List ℕ → List ℕ) (page : Option (List ℕ)) (mapped : Bool) → option_map f (or_zeros page mapped) ≡ cond (is_some page || mapped) (Some (f (unwrap_or page zero_page))) None
map_or_zeros f (Some page) mapped = refl
map_or_zeros f None true = refl
map_or_zeros f None false = refl

pub get-recorded_pages : (rec : Recording) (opened : State) (k brk_end number : ℕ) → opened.layout.brk_start % 4096 ≡ 0 → opened.layout.brk_start ≤ brk_end
    → get (recorded_pages rec opened k brk_end) number ≡ cond (is_mapped opened brk_end number) (Some (recorded_page opened.pages rec k number)) None
get-recorded_pages rec opened k brk_end number aligned above =
    let first : ℕ = opened.layout.brk_start / 4096 in
    let count : ℕ = (brk_end - opened.layout.brk_start) / 4096 in
    let stop : first + count ≡ brk_end / 4096 = omega arith in
    let listing : List ℕ → List ℕ = λ old. last_listing old (listed_to rec k) number in
    get-put_all_listed (map_pages opened.pages first count) (listed_to rec k) number
    ∙ ap (option_map listing) (get-map_pages opened.pages first count number)
    ∙ map_or_zeros listing (get opened.pages number) (is_among first (first + count) number)
    ∙ ap (λ n. cond (is_some (get opened.pages number) || is_among first n number) (Some (recorded_page opened.pages rec k number)) None) stop

-- ---- their length

whole_or_zeros : (page : Option (List ℕ)) → IfSome page (λ p. length p ≡ 4096) → length (unwrap_or page zero_page) ≡ 4096
whole_or_zeros None whole = length-replicate {A = ℕ} 4096 0
whole_or_zeros (Some page) whole = whole

pub length-recorded_page : (rec : Recording) (opened : Pages) (k number : ℕ) → IsRecordingValue rec → AreWhole opened → length (recorded_page opened rec k number) ≡ 4096
length-recorded_page rec opened k number is whole =
    length-last_listing (unwrap_or (get opened number) zero_page) (listed_to rec k) number (whole_or_zeros (get opened number) (whole number))
    (all_listed_to rec k is)

-- ---- the state

whole_chosen : (b : Bool) (page : List ℕ) → length page ≡ 4096 → IfSome (cond b (Some page) None) (λ p. length p ≡ 4096)
whole_chosen true page whole = whole
whole_chosen false page whole = tt

some_chosen : (b : Bool) (page : List ℕ) → is_some (cond b (Some page) None) ≡ b
some_chosen true page = refl
some_chosen false page = refl

-- the mapped end that is recorded fits, whatever the checkpoint says
record IsEnd (opened : State) (brk_end : ℕ) : Type 0 where
  page : brk_end % 4096 ≡ 0
  from : opened.layout.brk_start ≤ brk_end
  to : brk_end ≤ opened.layout.heap_limit

is_end : (opened : State) (brk_end : ℕ) → IsOpening opened → IsEnd opened (recorded_end opened brk_end)
is_end opened brk_end is =
    let start = is.fits.layout.start in
    let limit = is.fits.layout.limit in
    let ordered = is.fits.layout.ordered in
    record { page = omega arith; from = omega arith; to = omega arith }

-- every recorded state is one that a run could have
pub IsInRun-recorded : (rec : Recording) (opened : State) (k : ℕ) → IsRecordingValue rec → IsOpening opened → IsInRun opened (recorded_state rec opened k)
unfolding recorded_state_of
IsInRun-recorded rec opened zero is opens = IsInRun-opened opened opens
IsInRun-recorded rec opened (suc k) is opens =
    let checkpoint : CheckpointData = checkpoint_at rec (suc k) in
    let brk_end : ℕ = recorded_end opened checkpoint.brk_end in
    let fits = is_end opened checkpoint.brk_end opens in
    let old = IsInRun-opened opened opens in
    let pages = λ (number : ℕ). get-recorded_pages rec opened (suc k) brk_end number opens.fits.layout.start fits.from in
    record {
      registers = ap suc (IsCheckpoint-at rec (suc k) is).x.number;
      zero = refl;
      whole = λ number. subst (λ (o : Option (List ℕ)). IfSome o (λ p. length p ≡ 4096)) (sym (pages number)) (whole_chosen (is_mapped opened brk_end number) (recorded_page opened.pages rec (suc k) number) (length-recorded_page rec opened.pages (suc k) number is old.whole));
      layout = refl;
      end_page = fits.page;
      end_from = fits.from;
      end_to = fits.to;
      mapped = λ number. ap is_some (pages number) ∙ some_chosen (is_mapped opened brk_end number) (recorded_page opened.pages rec (suc k) number);
    }

pub count-recorded : (rec : Recording) (opened : State) (k : ℕ) → IsOpening opened → (recorded_state rec opened k).count ≡ recorded_count rec k
unfolding recorded_state_of
count-recorded rec opened zero opens = opens.count
count-recorded rec opened (suc k) opens = refl

-- and it fits
pub Fits-recorded : (rec : Recording) (opened : State) (k : ℕ) → IsRecordingValue rec → IsOpening opened → Fits (recorded_state rec opened k)
Fits-recorded rec opened k is opens =
    let runs = IsInRun-recorded rec opened k is opens in
    Fits-grows opened (recorded_state rec opened k) opens.fits (Grows-run opened (recorded_state rec opened k) opens.fits (heap_of opened (recorded_state rec opened k) runs) (omega (arith, runs.end_from, opens.no_heap)))
