-- What the marks of changed pages tell where a memory is compared with a checkpoint.
use Rattle.std.proofs.Common.{◌≡◌, ℕ, ◌-◌, ◌*◌, ◌<◌, ◌≤◌, Bool, true, false, cond, List, [], ◌∷◌, Some, None}
use Rattle.std.proofs.Common.{refl, ap, ◌∙◌, sym, subst, arith, inl, inr, ⊎_elim, eqb, zero, suc}
use Rattle.std.specs.Prelude.{Option, IfSome, IsSome, is_some, unwrap_or, ◌||◌, ◌&&◌, ◌⊎◌, ◌==◌, not, Contains, filter, if◌then◌else◌}
use Rattle.std.specs.Option.{option_or}
use Rattle.std.specs.List.{list_any}
use Rattle.std.specs.FinMap.{get, contains_key}
use Rattle.std.proofs.lemmas.Grind.{common_steps}
use Rattle.std.proofs.lemmas.Bool.{cases_Bool}
use Rattle.std.proofs.lemmas.List.Folds.{list_any_at}
use Rattle.std.proofs.lemmas.List.Elements.{Contains-append_left}
use Rattle.sl_model.specs.Marks.{MarksGoOn}
use Rattle.sl_model.specs.declared.layout.TheConstants.{PROGRAM_PAGES}
use Rattle.sl_model.specs.Pages.{Pages}
use Rattle.sl_model.specs.Mapping.{zero_page}
use Rattle.sl_model.specs.State.{State}
use Rattle.page_frames.specs.MarkedPages.{MarkedPages}
use Rattle.call_log.specs.declared.breaks.BreakKind.{BreakKind}
use Rattle.rec_format.specs.declared.recording.Recording.{Recording}
use Rattle.rec_format.specs.declared.recording.ListedPage.{ListedPage}
use Rattle.rec_format.specs.Recorded.{end_place, checkpoint_at, listed_to, is_listed, last_listing, recorded_page}
use Rattle.rec_format.specs.Recorded.{recorded_end, recorded_state_of}
use Rattle.rec_format.specs.Compared.{page_diff, pages_diff, PAGE_NUMBERS}
use Rattle.rec_format.proofs.SameState.{bytes_diff-same}
use Rattle.rec_format.proofs.RecordedStates.{get-recorded_pages}
use Rattle.checkpoints.specs.Memory.{mapped_diff, IsUnlike, IsCompared, IsFirstUnlike}
use Rattle.checkpoints.specs.Marked.{HoldsRecorded, can_differ, ComparesChanges, RecordedHolds, IsAllDirty}
use Rattle.checkpoints.proofs.Lists.{last_listing-before}
use Rattle.checkpoints.proofs.Compared.{first, compared_alike}

-- ---- a page that a checkpoint does not list

or_parts : (a b : Bool) → (a || b) ≡ false → (a ≡ false) × (b ≡ false)
or_parts true b e = absurd cc
or_parts false b e = (refl, e)

pub unlisted : (bytes : List ℕ) (listed : List ListedPage) (page : ℕ) → is_listed listed page ≡ false
    → last_listing bytes listed page ≡ bytes
unlisted bytes [] page not_listed = refl
unlisted bytes (p ∷ ps) page not_listed =
    let both = or_parts (p.number == page) (is_listed ps page) not_listed in
    rw both.0 (unlisted bytes ps page both.1)

-- it is recorded as at the checkpoint before
pub recorded-before : (opened : Pages) (rec : Recording) (k page : ℕ) → 0 < k → k ≤ end_place rec
    → is_listed (checkpoint_at rec k).pages page ≡ false
    → recorded_page opened rec k page ≡ recorded_page opened rec (k - 1) page
recorded-before opened rec k page some within not_listed =
    let bytes : List ℕ = unwrap_or (get opened page) zero_page in
    last_listing-before bytes rec k page (checkpoint_at rec k).pages some within refl
    ∙ unlisted (last_listing bytes (listed_to rec (k - 1)) page) (checkpoint_at rec k).pages page not_listed

-- ---- a page that is not dirty either

same_by : (opened : Pages) (rec : Recording) (k page : ℕ) (o : Option (List ℕ)) (dirty : Type 0) → (dirty → ⊥)
    → IfSome o (λ bytes. (bytes ≡ recorded_page opened rec (k - 1) page) ⊎ dirty)
    → recorded_page opened rec k page ≡ recorded_page opened rec (k - 1) page
    → mapped_diff opened rec k page o ≡ None
same_by opened rec k page None dirty clean holds same = refl
same_by opened rec k page (Some bytes) dirty clean holds same = ⊎_elim
    (λ (is : bytes ≡ recorded_page opened rec (k - 1) page).
    rw (is, same) (bytes_diff-same (page * 4096) (recorded_page opened rec (k - 1) page)))
    (λ d. absurd (clean d))
    holds

-- it does not differ
pub same-unchanged : (opened : Pages) (rec : Recording) (k : ℕ) (memory : MarkedPages) (page : ℕ) → 0 < k
    → k ≤ end_place rec → HoldsRecorded opened rec (k - 1) memory → (Contains memory.dirty page → ⊥)
    → is_listed (checkpoint_at rec k).pages page ≡ false
    → mapped_diff opened rec k page (get memory.pages page) ≡ None
same-unchanged opened rec k memory page some within holds clean not_listed =
    same_by opened rec k page (get memory.pages page) (Contains memory.dirty page) clean (holds page)
    (recorded-before opened rec k page some within not_listed)

compared_by : (opened : Pages) (rec : Recording) (k : ℕ) (memory : MarkedPages) (least : Option (ℕ × BreakKind)) (page : ℕ)
    → (o : Option (List ℕ)) → get memory.pages page ≡ o
    → IfSome o (λ bytes. (bytes ≡ recorded_page opened rec (k - 1) page) ⊎ Contains memory.dirty page)
    → (Contains memory.dirty page → IsCompared opened rec k memory.pages least page)
    → recorded_page opened rec k page ≡ recorded_page opened rec (k - 1) page
    → IsCompared opened rec k memory.pages least page
compared_by opened rec k memory least page None at holds dirty same =
    compared_alike opened rec k memory.pages least page (rw at refl)
compared_by opened rec k memory least page (Some bytes) at holds dirty same = ⊎_elim
    (λ (is : bytes ≡ recorded_page opened rec (k - 1) page).
    compared_alike opened rec k memory.pages least page
    (rw (at, is, same) (bytes_diff-same (page * 4096) (recorded_page opened rec (k - 1) page))))
    dirty
    holds

-- so dirty and listed pages are enough
pub first-changed : (opened : Pages) (rec : Recording) (k : ℕ) (memory : MarkedPages) (least : Option (ℕ × BreakKind))
    → 0 < k → k ≤ end_place rec → HoldsRecorded opened rec (k - 1) memory
    → IsUnlike opened rec k memory.pages least
    → ((q : ℕ) → Contains memory.dirty q → IsCompared opened rec k memory.pages least q)
    → ((q : ℕ) → is_listed (checkpoint_at rec k).pages q ≡ true → IsCompared opened rec k memory.pages least q)
    → IsFirstUnlike opened rec k memory.pages least
first-changed opened rec k memory least some within holds told dirty listed =
    first opened rec k memory.pages least told (λ q. ⊎_elim
    (λ (is : is_listed (checkpoint_at rec k).pages q ≡ true). listed q is)
    (λ (not_listed : is_listed (checkpoint_at rec k).pages q ≡ false).
    compared_by opened rec k memory least q (get memory.pages q) refl (holds q) (dirty q)
    (recorded-before opened rec k q some within not_listed))
    (cases_Bool (is_listed (checkpoint_at rec k).pages q)))

-- ---- the law of comparisons

any_contained : (page : ℕ) (dirty : List ℕ) → Contains dirty page → list_any (eqb page) dirty ≡ true
any_contained page dirty stands =
    list_any_at (eqb page) dirty stands.0 page stands.1 (rw stands.2 (grind (arith, common_steps)))

clean : (page : ℕ) (dirty : List ℕ) → list_any (eqb page) dirty ≡ false → Contains dirty page → ⊥
clean page dirty none stands = let any = any_contained page dirty stands in absurd cc

listed_mapped : (a : Bool) (o : Option (List ℕ)) → (a && not (is_some o)) ≡ false → a ≡ true → is_some o ≡ true
listed_mapped a None e is = absurd (grind (arith, common_steps, e, is))
listed_mapped a (Some bytes) e is = refl

skipped_by : (opened : Pages) (rec : Recording) (k page : ℕ) (o : Option (List ℕ))
    → mapped_diff opened rec k page o ≡ None
    → (is_listed (listed_to rec k) page && not (is_some o)) ≡ false → page_diff opened rec k page o ≡ None
skipped_by opened rec k page None alike mapped =
    let not_listed : is_listed (listed_to rec k) page ≡ false = grind (arith, common_steps, mapped) in
    rw not_listed refl
skipped_by opened rec k page (Some bytes) alike mapped = alike

skipped : (opened : Pages) (rec : Recording) (k : ℕ) (memory : MarkedPages) (page : ℕ) → 0 < k → k ≤ end_place rec
    → HoldsRecorded opened rec (k - 1) memory → can_differ rec k memory page ≡ false
    → page_diff opened rec k page (get memory.pages page) ≡ None
skipped opened rec k memory page some within holds cannot =
    let outer = or_parts (list_any (eqb page) memory.dirty || is_listed (checkpoint_at rec k).pages page)
    (is_listed (listed_to rec k) page && not (contains_key memory.pages page)) cannot in
    let inner = or_parts (list_any (eqb page) memory.dirty) (is_listed (checkpoint_at rec k).pages page) outer.0 in
    skipped_by opened rec k page (get memory.pages page)
    (same-unchanged opened rec k memory page some within holds (clean page memory.dirty inner.0) inner.1) outer.1

kept_by : (opened : Pages) (rec : Recording) (k : ℕ) (s : State) (page : ℕ) (test : ℕ → Bool) (pages : List ℕ) (b : Bool)
    → test page ≡ b → (b ≡ false → page_diff opened rec k page (get s.pages page) ≡ None)
    → pages_diff opened rec k s (filter test pages) ≡ pages_diff opened rec k s pages
    → pages_diff opened rec k s (if b then page ∷ filter test pages else filter test pages)
    ≡ option_or (page_diff opened rec k page (get s.pages page)) (pages_diff opened rec k s pages)
kept_by opened rec k s page test pages true is alike rest =
    ap (option_or (page_diff opened rec k page (get s.pages page))) rest
kept_by opened rec k s page test pages false is alike rest = rw (alike refl) rest

only_changes : (opened : Pages) (rec : Recording) (k : ℕ) (s : State) (test : ℕ → Bool) (pages : List ℕ)
    → ((page : ℕ) → test page ≡ false → page_diff opened rec k page (get s.pages page) ≡ None)
    → pages_diff opened rec k s (filter test pages) ≡ pages_diff opened rec k s pages
only_changes opened rec k s test [] alike = refl
only_changes opened rec k s test (page ∷ pages) alike =
    kept_by opened rec k s page test pages (test page) refl (alike page) (only_changes opened rec k s test pages alike)

pub compares-changes : ComparesChanges
compares-changes opened rec k memory s some within same holds =
    only_changes opened rec k s (can_differ rec k memory) PAGE_NUMBERS (λ page cannot.
    ap (λ p. page_diff opened rec k page (get p page)) same
    ∙ skipped opened rec k memory page some within holds cannot)

-- ---- recorded states

held_by : (b : Bool) (bytes : List ℕ) (o : Option (List ℕ)) (dirty : Type 0) → o ≡ cond b (Some bytes) None
    → IfSome o (λ held. (held ≡ bytes) ⊎ dirty)
held_by b bytes None dirty is = tt
held_by true bytes (Some held) dirty is = inl cc
held_by false bytes (Some held) dirty is = absurd cc

opening_by : (o : Option (List ℕ)) (dirty : Type 0) → IfSome o (λ held. (held ≡ unwrap_or o zero_page) ⊎ dirty)
opening_by None dirty = tt
opening_by (Some bytes) dirty = inl refl

pub recorded-holds : RecordedHolds
unfolding recorded_state_of
recorded-holds rec opened zero memory opens same page =
    rw same (opening_by (get opened.pages page) (Contains memory.dirty page))
recorded-holds rec opened (suc k) memory opens same page =
    let end : ℕ = recorded_end opened (checkpoint_at rec (suc k)).brk_end in
    let above : opened.layout.brk_start ≤ end = omega arith in
    held_by _ (recorded_page opened.pages rec (suc k) page) (get memory.pages page) (Contains memory.dirty page)
    (ap (λ p. get p page) same
    ∙ get-recorded_pages rec opened (suc k) end page opens.fits.layout.start above)

-- ---- marks that go on

held_on : (opened : Pages) (rec : Recording) (k : ℕ) (before after : MarkedPages) (page : ℕ) (o : Option (List ℕ))
    → get after.pages page ≡ o → HoldsRecorded opened rec k before
    → MarksGoOn true before.pages before.dirty after.pages after.dirty → (IsSome o → page < PROGRAM_PAGES)
    → IfSome o (λ bytes. (bytes ≡ recorded_page opened rec k page) ⊎ Contains after.dirty page)
held_on opened rec k before after page None at holds on below = tt
held_on opened rec k before after page (Some bytes) at holds on below = ⊎_elim
    (λ (same : get after.pages page ≡ get before.pages page).
    let there : IfSome (Some bytes) (λ held. (held ≡ recorded_page opened rec k page) ⊎ Contains before.dirty page) =
    subst (λ o. IfSome o (λ held. (held ≡ recorded_page opened rec k page) ⊎ Contains before.dirty page))
    (sym same ∙ at) (holds page) in
    ⊎_elim
    (λ (is : bytes ≡ recorded_page opened rec k page). inl is)
    (λ (dirty : Contains before.dirty page).
    inr (rw on.keeps.1 (Contains-append_left before.dirty on.keeps.0 page dirty)))
    there)
    (λ (dirty : Contains after.dirty page). inr dirty)
    (on.marks refl page (below refl))

-- a program that goes on keeps what is known of the pages that are not dirty
pub holds-goes_on : (opened : Pages) (rec : Recording) (k : ℕ) (before after : MarkedPages)
    → HoldsRecorded opened rec k before → MarksGoOn true before.pages before.dirty after.pages after.dirty
    → ((page : ℕ) → IsSome (get after.pages page) → page < PROGRAM_PAGES) → HoldsRecorded opened rec k after
holds-goes_on opened rec k before after holds on below page =
    held_on opened rec k before after page (get after.pages page) refl holds on (below page)

dirty_by : (opened : Pages) (rec : Recording) (k : ℕ) (memory : MarkedPages) (page : ℕ) (o : Option (List ℕ))
    → (IsSome o → Contains memory.dirty page)
    → IfSome o (λ bytes. (bytes ≡ recorded_page opened rec k page) ⊎ Contains memory.dirty page)
dirty_by opened rec k memory page None dirty = tt
dirty_by opened rec k memory page (Some bytes) dirty = inr (dirty refl)

-- where all pages are dirty nothing has to be known
pub holds-all_dirty : (opened : Pages) (rec : Recording) (k : ℕ) (memory : MarkedPages) → IsAllDirty memory
    → HoldsRecorded opened rec k memory
holds-all_dirty opened rec k memory all page =
    dirty_by opened rec k memory page (get memory.pages page) (all page)
