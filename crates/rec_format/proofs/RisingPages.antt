-- Pages whose numbers rise through all of a recording's lists are needed, whatever they hold.
use Rattle.std.proofs.Common.{◌≡◌, ℕ, ◌+◌, ◌<◌, ◌≤◌, false, eqb, List, [], ◌∷◌, ◌++◌, map, Option, Some, None, refl, sym, ap, subst, ◌∙◌, arith}
use Rattle.std.specs.Prelude.{reverse}
use Rattle.std.specs.List.{AllByRecursion, find}
use Rattle.std.specs.Option.{option_map}
use Rattle.std.proofs.lemmas.Bool.{ne_eqb}
use Rattle.std.proofs.lemmas.List.{reverse-append}
use Rattle.std.proofs.lemmas.Option.{none-some}
use Rattle.call_log.specs.declared.entry.End.TheVariants.{Stopped}
use Rattle.rec_format.specs.declared.recording.ListedPage.{ListedPage}
use Rattle.rec_format.specs.declared.recording.CheckpointData.{CheckpointData}
use Rattle.rec_format.specs.declared.recording.Recording.{Recording}
use Rattle.rec_format.specs.Rules.{Rise, last_or, number_of, last_listed, AreNeeded, IsCheckpoint, IsRecordingValue}
use Rattle.rec_format.proofs.Fronts.{All-join, Rise-join}

-- every page of these has a number below
abbrev pub AreBelow : ℕ → List ListedPage → Type 0
AreBelow n pages = AllByRecursion (λ page. page.number < n) pages

AreBelow-reverse : (n : ℕ) (pages : List ListedPage) → AreBelow n pages → AreBelow n (reverse pages)
AreBelow-reverse n [] h = tt
AreBelow-reverse n (page ∷ pages) h =
    subst (AreBelow n) (sym (reverse-append (page ∷ []) pages)) (All-join (λ (p : ListedPage). p.number < n) (reverse pages) (page ∷ []) (AreBelow-reverse n pages h.1) (h.0, tt))

AreBelow-more : (n m : ℕ) (pages : List ListedPage) → n ≤ m → AreBelow n pages → AreBelow m pages
AreBelow-more n m [] le h = tt
AreBelow-more n m (page ∷ pages) le h = (omega (arith, h.0, le), AreBelow-more n m pages le h.1)

not_found : (n : ℕ) (pages : List ListedPage) → AreBelow n pages → find (λ (p : ListedPage). eqb p.number n) pages ≡ None
not_found n [] h = refl
not_found n (page ∷ pages) h =
    let other : eqb page.number n ≡ false = ne_eqb _ _ (λ same. omega (arith, h.0, same)) in
    rw other (not_found n pages h.1)

not_listed : (n : ℕ) (pages : List ListedPage) → AreBelow n pages → last_listed n pages ≡ None
not_listed n pages h = ap (option_map (λ (p : ListedPage). p.bytes)) (not_found n (reverse pages) (AreBelow-reverse n pages h))

-- pages that rise after a number that is at least those of some others
rising_pages : (n : ℕ) (earlier pages : List ListedPage) → AreBelow (n + 1) earlier → Rise (Some n) (map number_of pages) → AreNeeded earlier pages
rising_pages n earlier [] below rise = tt
rising_pages n earlier (page ∷ pages) below rise =
    let m = page.number in
    let above : n < m = rise.0 in
    let lower : AreBelow m earlier = AreBelow-more (n + 1) m earlier (omega (arith, above)) below in
    let with_page : AreBelow (m + 1) (earlier ++ page ∷ []) = All-join (λ (p : ListedPage). p.number < m + 1) earlier (page ∷ []) (AreBelow-more m (m + 1) earlier (omega arith) lower) (omega arith, tt) in
    (λ same. none-some page.bytes (sym (not_listed m earlier lower) ∙ same), rising_pages m (earlier ++ page ∷ []) pages with_page rise.1)

-- ---- pages whose numbers go up from one number to another

pub record Climb (from upto : ℕ) (pages : List ListedPage) : Type 0 where
  pub rising : Rise (Some from) (map number_of pages)
  pub last : last_or (Some from) number_of pages ≡ Some upto

last_or-append : (before : Option ℕ) (pages others : List ListedPage) → last_or before number_of (pages ++ others) ≡ last_or (last_or before number_of pages) number_of others
last_or-append before [] others = refl
last_or-append before (page ∷ pages) others = last_or-append (Some page.number) pages others

Climb-join : (a b c : ℕ) (pages others : List ListedPage) → Climb a b pages → Climb b c others → Climb a c (pages ++ others)
Climb-join a b c pages others p q = record {
  rising = Rise-join (Some a) number_of pages others p.rising (rw p.last q.rising);
  last = last_or-append (Some a) pages others ∙ rw p.last q.last;
}

-- another page at the end
pub Climb-push : (a b : ℕ) (pages : List ListedPage) (page : ListedPage) → Climb a b pages → page.number ≡ b + 1 → Climb a (b + 1) (pages ++ page ∷ [])
Climb-push a b pages page p is =
    Climb-join a b (b + 1) pages (page ∷ []) p (record { rising = (omega (arith, is), tt); last = ap Some is })

-- the lists of three checkpoints and of the end
pub four_climbs : (a b c d e : ℕ) (p q r s : List ListedPage) → Climb a b p → Climb b c q → Climb c d r → Climb d e s → AreNeeded [] ((p ++ (q ++ (r ++ []))) ++ s)
four_climbs a b c d e p q r s hp hq hr hs =
    let none : Climb d d [] = record { rising = tt; last = refl } in
    let all = Climb-join a d e _ s (Climb-join a b d p _ hp (Climb-join b c d q _ hq (Climb-join c d d r [] hr none))) hs in
    rising_pages a [] _ tt all.rising

pub starts_anywhere : (n : ℕ) (pages : List ListedPage) → Rise (Some n) (map number_of pages) → Rise None (map number_of pages)
starts_anywhere n [] rise = tt
starts_anywhere n (page ∷ pages) rise = (tt, rise.1)

-- a checkpoint with this count, and the pages that it lists
pub record Saves (n from upto : ℕ) (c : CheckpointData) : Type 0 where
  pub is : IsCheckpoint c
  pub count : c.count ≡ n
  pub climb : Climb from upto c.pages

-- a run without an image that was stopped, of three checkpoints and the end
pub is_run : (a b c d e : ℕ) (rec : Recording) (p q r : CheckpointData)
    → (rec.kind ≡ 0) × (rec.load_addr ≡ 0) × (rec.image ≡ []) × (rec.args ≡ []) × (rec.calls ≡ []) × (rec.end ≡ Stopped)
    → rec.checkpoints ≡ p ∷ q ∷ r ∷ [] → Saves 1 a b p → Saves 2 b c q → Saves 3 c d r → Saves 4 d e rec.last → IsRecordingValue rec
is_run a b c d e rec p q r rest is hp hq hr hs = record {
  kind = rw rest.0 (omega arith);
  load_addr = rw rest.1 (omega arith);
  image = rw rest.2 (omega arith);
  args = rw rest.3 (record { number = omega arith; zero_free = tt; size = omega arith });
  number_of_calls = rw rest.4 (omega arith);
  each_call = rw rest.4 tt;
  number_of_checkpoints = rw is (omega arith);
  each_checkpoint = rw is (hp.is, (hq.is, (hr.is, tt)));
  counts_rise = rw is (omega (arith, hp.count), (omega (arith, hp.count, hq.count), (omega (arith, hq.count, hr.count), tt)));
  how_it_ends = rw rest.5 tt;
  last = hs.is;
  last_is_above = rw is (omega (arith, hr.count, hs.count));
  each_listing_is_needed = rw is (four_climbs a b c d e p.pages q.pages r.pages rec.last.pages hp.climb hq.climb hr.climb hs.climb);
}
