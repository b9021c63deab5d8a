-- What checkpoints record that list the changes of states of one run.
use Rattle.std.specs.Prelude.{if◌then◌else◌, ◌||◌, ◌==◌, ◌^◌, is_some, unwrap_or, map}
use Rattle.std.specs.List.{AllByRecursion}
use Rattle.std.specs.FinMap.{get}
use Rattle.std.proofs.Common.{◌≡◌, ℕ, zero, suc, ◌+◌, ◌<◌, ◌≤◌, ⊎_elim, Bool, true, false, cond, List, [], ◌∷◌, ◌++◌, length, take, Option, Some, None, refl, sym, ap, subst, ◌∙◌, arith, eqb, append_assoc}
use Rattle.std.proofs.lemmas.Bool.{or_cases}
use Rattle.std.proofs.lemmas.List.{append-nil}
use Rattle.sl_model.specs.Pages.{Pages}
use Rattle.sl_model.specs.Mapping.{zero_page}
use Rattle.sl_model.specs.State.{State}
use Rattle.rec_format.specs.declared.recording.CheckpointData.{CheckpointData}
use Rattle.rec_format.specs.declared.recording.ListedPage.{ListedPage}
use Rattle.rec_format.specs.Rules.{AreNeeded, listings}
use Rattle.rec_format.specs.Rules as rules
use Rattle.rec_format.specs.Recorded.{last_listing, is_listed}
use Rattle.rec_format.proofs.Fronts.{AreNeeded-join}
use Rattle.rec_format.proofs.Listed.{last_listing-append}
use Rattle.rec_format.proofs.LastListing.{last_listed-push}
use Rattle.call_recorder.specs.Listing.{page_in, changed_pages, checkpoint_of, checkpoints_of}
use Rattle.call_recorder.specs.Kept.{memory_after}
use Rattle.call_recorder.proofs.PageLists.{is_listed-append, last_changed, listed_is_mapped, changes_are_needed}

-- the pages of a memory stay mapped in another
abbrev pub Grows : Pages → Pages → Type 0
Grows before now = (q : ℕ) → is_some (get before q) ≡ true → is_some (get now q) ≡ true

-- memories of which each one grows from the one before, below the end of all pages
abbrev pub Chain : Pages → List State → Type 0
Chain before [] = Unit {0}
Chain before (s ∷ states) = Grows before s.pages × ((q : ℕ) → is_some (get s.pages q) ≡ true → q < 2 ^ 20) × Chain s.pages states

pub chain-front : (before : Pages) (states more : List State) → Chain before (states ++ more) → Chain before states
chain-front before [] more chain = tt
chain-front before (s ∷ states) more chain = (chain.0, chain.1, chain-front s.pages states more chain.2)

grown : (page : Option (List ℕ)) (old : Option (List ℕ)) → (is_some old ≡ true → is_some page ≡ true) → unwrap_or page (unwrap_or old zero_page) ≡ unwrap_or page zero_page
grown (Some page) old grows = refl
grown None None grows = refl
grown None (Some old) grows =
    let never : false ≡ true = grows refl in
    absurd cc

-- the last listing of a page is what the last memory has
pub recorded_memory : (bytes : List ℕ) (before : Pages) (states : List State) (q : ℕ) → Chain before states → bytes ≡ page_in before q → last_listing bytes (listings (checkpoints_of (page_in before) states)) q ≡ page_in (memory_after before states) q
recorded_memory bytes before [] q chain is = is
recorded_memory bytes before (s ∷ states) q chain is =
    let changed : List ListedPage = changed_pages (page_in before) s.pages in
    let rest : List ListedPage = listings (checkpoints_of (page_in s.pages) states) in
    last_listing-append bytes changed rest q
    ∙ recorded_memory (last_listing bytes changed q) s.pages states q chain.2
    (ap (λ b. last_listing b changed q) is ∙ last_changed (page_in before) s.pages q (chain.1 q) ∙ grown (get s.pages q) (get before q) (chain.0 q))

grows_on : (before : Pages) (states : List State) (q : ℕ) → Chain before states → is_some (get before q) ≡ true → is_some (get (memory_after before states) q) ≡ true
grows_on before [] q chain is = is
grows_on before (s ∷ states) q chain is = grows_on s.pages states q chain.2 (chain.0 q is)

-- a listed page is mapped in the last memory
pub listed_stay_mapped : (before : Pages) (states : List State) (q : ℕ) → Chain before states → is_listed (listings (checkpoints_of (page_in before) states)) q ≡ true → is_some (get (memory_after before states) q) ≡ true
listed_stay_mapped before [] q chain is = absurd cc
listed_stay_mapped before (s ∷ states) q chain is =
    let changed : List ListedPage = changed_pages (page_in before) s.pages in
    let rest : List ListedPage = listings (checkpoints_of (page_in s.pages) states) in
    ⊎_elim
    (λ (here : is_listed changed q ≡ true). grows_on s.pages states q chain.2 (listed_is_mapped (page_in before) s.pages q here))
    (λ (later : is_listed rest q ≡ true). listed_stay_mapped s.pages states q chain.2 later)
    (or_cases (is_listed changed q) (is_listed rest q) (sym (is_listed-append changed rest q) ∙ is))

-- ---- each listing is needed

abbrev or_bytes : Option (List ℕ) → List ℕ → List ℕ
or_bytes o bytes = unwrap_or o bytes

push_same : (b : Bool) (bytes d : List ℕ) (o : Option (List ℕ)) → (if b then bytes else or_bytes o d) ≡ or_bytes (cond b (Some bytes) o) d
push_same true bytes d o = refl
push_same false bytes d o = refl

-- both ways to speak of the last listing
same_listing : (d : List ℕ) (earlier pages : List ListedPage) (q : ℕ) → last_listing d earlier q ≡ or_bytes (rules.last_listed q earlier) d → last_listing d (earlier ++ pages) q ≡ or_bytes (rules.last_listed q (earlier ++ pages)) d
same_listing d earlier [] q same = ap (λ l. last_listing d l q) (append-nil earlier) ∙ same ∙ ap (λ l. or_bytes (rules.last_listed q l) d) (sym (append-nil earlier))
same_listing d earlier (page ∷ pages) q same =
    let one : last_listing d (earlier ++ page ∷ []) q ≡ or_bytes (rules.last_listed q (earlier ++ page ∷ [])) d =
    last_listing-append d earlier (page ∷ []) q
    ∙ ap (λ bytes. if page.number == q then page.bytes else bytes) same
    ∙ push_same (eqb page.number q) page.bytes d (rules.last_listed q earlier)
    ∙ ap (λ o. or_bytes o d) (sym (last_listed-push q earlier page)) in
    let split = append_assoc earlier (page ∷ []) pages in
    ap (λ l. last_listing d l q) (sym split) ∙ same_listing d (earlier ++ page ∷ []) pages q one ∙ ap (λ l. or_bytes (rules.last_listed q l) d) split

listing_is : (d bytes : List ℕ) (pages : List ListedPage) (q : ℕ) → rules.last_listed q pages ≡ Some bytes → bytes ≡ last_listing d pages q
listing_is d bytes pages q is = sym (same_listing d [] pages q refl ∙ ap (λ o. or_bytes o d) is)

-- what was listed of each page is what a memory has
pub needed : (opened before : Pages) (earlier : List ListedPage) (states : List State) → Chain before states → ((q : ℕ) → last_listing (page_in opened q) earlier q ≡ page_in before q) → AreNeeded earlier (listings (checkpoints_of (page_in before) states))
needed opened before earlier [] chain tracks = tt
needed opened before earlier (s ∷ states) chain tracks =
    let changed : List ListedPage = changed_pages (page_in before) s.pages in
    AreNeeded-join earlier changed (listings (checkpoints_of (page_in s.pages) states))
    (changes_are_needed (page_in before) s.pages earlier (λ q bytes low is. listing_is (page_in opened q) bytes earlier q is ∙ tracks q))
    (needed opened s.pages (earlier ++ changed) states chain.2 (λ q.
    last_listing-append (page_in opened q) earlier changed q
    ∙ ap (λ b. last_listing b changed q) (tracks q)
    ∙ last_changed (page_in before) s.pages q (chain.1 q)
    ∙ grown (get s.pages q) (get before q) (chain.0 q)))
