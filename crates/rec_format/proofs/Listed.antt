-- Laws of what the checkpoints of a recording list.
use Rattle.std.proofs.Common.{◌≡◌, ℕ, zero, suc, ◌+◌, ◌-◌, ◌<◌, ◌≤◌, Bool, true, false, List, [], ◌∷◌, ◌++◌, length, take, drop, get_or, cond, Option, Some, None, refl, ap, ◌∙◌, sym, arith, append_assoc, slice_get, length-append}
use Rattle.std.specs.Prelude.{IfSome, unwrap_or, reverse, ◌==◌, if◌then◌else◌}
use Rattle.std.specs.List.{AllByRecursion, flat_map, find}
use Rattle.std.specs.Option.{option_map, option_or}
use Rattle.std.specs.FinMap.{insert, contains_key}
use Rattle.std.proofs.lemmas.List.{take_more, drop_more, append-nil, reverse-append}
use Rattle.std.proofs.lemmas.List.Folds.{find-append}
use Rattle.sl_model.specs.Pages.{Pages}
use Rattle.rec_format.specs.declared.recording.Recording.{Recording}
use Rattle.rec_format.specs.declared.recording.CheckpointData.{CheckpointData}
use Rattle.rec_format.specs.declared.recording.ListedPage.{ListedPage}
use Rattle.rec_format.specs.Rules.{IsListedPage, IsCheckpoint, IsRecordingValue, listings, last_listed}
use Rattle.rec_format.specs.Recorded.{all_checkpoints, checkpoint_at, end_place, listed_to, last_listing, put_listed, put_all_listed}

-- ---- lists

pub flat_map-append : {X A : Type 0} (f : X → List A) (xs ys : List X) → flat_map f (xs ++ ys) ≡ flat_map f xs ++ flat_map f ys
flat_map-append f [] ys = refl
flat_map-append f (x ∷ xs) ys = ap (λ l. f x ++ l) (flat_map-append f xs ys) ∙ sym (append_assoc (f x) (flat_map f xs) (flat_map f ys))

-- the items so far and one more, and the items left and one less
pub take_item : {X : Type 0} (xs : List X) (i : ℕ) (item : X) → i < length xs → item ≡ get_or xs i item → take (i + 1) xs ≡ take i xs ++ item ∷ []
take_item xs i item lt is = take_more xs i item lt ∙ ap (λ x. take i xs ++ x ∷ []) (sym is)

pub drop_item : {X : Type 0} (xs : List X) (i : ℕ) (item : X) → i < length xs → item ≡ get_or xs i item → drop i xs ≡ item ∷ drop (i + 1) xs
drop_item xs i item lt is = drop_more xs i item lt ∙ ap (λ x. x ∷ drop (i + 1) xs) (sym is)

pub all_item : {X : Type 0} (P : X → Type 0) (xs : List X) (i : ℕ) (d : X) → AllByRecursion P xs → i < length xs → P (get_or xs i d)
all_item P [] i d all lt = absurd (omega arith)
all_item P (x ∷ xs) zero d all lt = all.0
all_item P (x ∷ xs) (suc i) d all lt = all_item P xs i d all.1 (omega arith)

pub all_take : {X : Type 0} (P : X → Type 0) (k : ℕ) (xs : List X) → AllByRecursion P xs → AllByRecursion P (take k xs)
all_take P zero xs all = tt
all_take P (suc k) [] all = tt
all_take P (suc k) (x ∷ xs) all = (all.0, all_take P k xs all.1)

pub all_append : {X : Type 0} (P : X → Type 0) (xs ys : List X) → AllByRecursion P xs → AllByRecursion P ys → AllByRecursion P (xs ++ ys)
all_append P [] ys a b = b
all_append P (x ∷ xs) ys a b = (a.0, all_append P xs ys a.1 b)

-- ---- all listings of some checkpoints

pub all_listed : (checkpoints : List CheckpointData) → AllByRecursion IsCheckpoint checkpoints → AllByRecursion IsListedPage (flat_map (λ c. c.pages) checkpoints)
all_listed [] all = tt
all_listed (c ∷ cs) all = all_append IsListedPage c.pages (flat_map (λ c. c.pages) cs) all.0.each_page (all_listed cs all.1)

-- ---- the last listing

pub last_listing-append : (bytes : List ℕ) (xs ys : List ListedPage) (number : ℕ) → last_listing bytes (xs ++ ys) number ≡ last_listing (last_listing bytes xs number) ys number
last_listing-append bytes [] ys number = refl
last_listing-append bytes (x ∷ xs) ys number = last_listing-append (if x.number == number then x.bytes else bytes) xs ys number

pub last_listing-more : (bytes : List ℕ) (listed : List ListedPage) (i number : ℕ) (item : ListedPage) → i < length listed → item ≡ get_or listed i item
    → last_listing bytes (take (i + 1) listed) number ≡ (if item.number == number then item.bytes else last_listing bytes (take i listed) number)
last_listing-more bytes listed i number item lt is = ap (λ l. last_listing bytes l number) (take_item listed i item lt is) ∙ last_listing-append bytes (take i listed) (item ∷ []) number

or_earlier : (found : Option ListedPage) (is : Bool) (x : ListedPage) (bytes : List ℕ) → unwrap_or (option_map (λ (p : ListedPage). p.bytes) found) (if is then x.bytes else bytes) ≡ unwrap_or (option_map (λ (p : ListedPage). p.bytes) (option_or found (cond is (Some x) None))) bytes
or_earlier (Some p) is x bytes = refl
or_earlier None true x bytes = refl
or_earlier None false x bytes = refl

-- the bytes of a page after some listings are those of its last one, or others where there is none
pub last_listing-last_listed : (bytes : List ℕ) (listed : List ListedPage) (number : ℕ) → last_listing bytes listed number ≡ unwrap_or (last_listed number listed) bytes
last_listing-last_listed bytes [] number = refl
last_listing-last_listed bytes (x ∷ xs) number =
    let is : ListedPage → Bool = λ p. p.number == number in
    let reversed : find is (reverse (x ∷ xs)) ≡ option_or (find is (reverse xs)) (cond (x.number == number) (Some x) None) = ap (find is) (reverse-append (x ∷ []) xs) ∙ find-append is (reverse xs) (x ∷ []) in
    last_listing-last_listed (if x.number == number then x.bytes else bytes) xs number
    ∙ or_earlier (find is (reverse xs)) (x.number == number) x bytes
    ∙ ap (λ found. unwrap_or (option_map (λ (p : ListedPage). p.bytes) found) bytes) (sym reversed)

chosen_length : (b : Bool) (xs ys : List ℕ) → length xs ≡ 4096 → length ys ≡ 4096 → length (if b then xs else ys) ≡ 4096
chosen_length true xs ys p q = p
chosen_length false xs ys p q = q

pub length-last_listing : (bytes : List ℕ) (listed : List ListedPage) (number : ℕ) → length bytes ≡ 4096 → AllByRecursion IsListedPage listed → length (last_listing bytes listed number) ≡ 4096
length-last_listing bytes [] number whole all = whole
length-last_listing bytes (x ∷ xs) number whole all =
    length-last_listing (if x.number == number then x.bytes else bytes) xs number (chosen_length (x.number == number) x.bytes bytes all.0.bytes whole) all.1

-- ---- listed pages

pub put_all_listed-append : (pages : Pages) (xs ys : List ListedPage) → put_all_listed pages (xs ++ ys) ≡ put_all_listed (put_all_listed pages xs) ys
unfolding put_all_listed
put_all_listed-append pages [] ys = refl
put_all_listed-append pages (x ∷ xs) ys = put_all_listed-append (put_listed pages x) xs ys

pub put_listed_mapped : (pages : Pages) (page : ListedPage) → contains_key pages page.number ≡ true → put_listed pages page ≡ insert pages page.number page.bytes
put_listed_mapped pages page found = rw found refl

-- ---- the checkpoints as one list

-- the rules hold of all of them
pub each_checkpoint : (rec : Recording) → IsRecordingValue rec → AllByRecursion IsCheckpoint (all_checkpoints rec)
each_checkpoint rec is = all_append IsCheckpoint rec.checkpoints (rec.last ∷ []) is.each_checkpoint (is.last, tt)

pub few_checkpoints : (rec : Recording) → IsRecordingValue rec → length (all_checkpoints rec) ≤ 4096
few_checkpoints rec is = omega (arith, is.number_of_checkpoints, length-append rec.checkpoints (rec.last ∷ []))

item_or_last : (rec : Recording) (checkpoints : List CheckpointData) (i : ℕ) (d : CheckpointData) → i < length checkpoints + 1 → get_or (checkpoints ++ rec.last ∷ []) i d ≡ unwrap_or (slice_get checkpoints i) rec.last
item_or_last rec [] zero d lt = refl
item_or_last rec [] (suc i) d lt = absurd (omega arith)
item_or_last rec (c ∷ cs) zero d lt = refl
item_or_last rec (c ∷ cs) (suc i) d lt = item_or_last rec cs i d (omega arith)

-- checkpoint k is the item before k of the list
pub item_is : (rec : Recording) (k : ℕ) (d : CheckpointData) → k < length (all_checkpoints rec) → get_or (all_checkpoints rec) k d ≡ checkpoint_at rec (suc k)
item_is rec k d lt =
    let same : suc k - 1 ≡ k = omega arith in
    item_or_last rec rec.checkpoints k d (omega (arith, length-append rec.checkpoints (rec.last ∷ []))) ∙ ap (λ i. unwrap_or (slice_get rec.checkpoints i) rec.last) (sym same)

item_at : (rec : Recording) (k : ℕ) (item : CheckpointData) → k < end_place rec → item ≡ checkpoint_at rec (suc k) → item ≡ get_or (all_checkpoints rec) k item
item_at rec k item within is = is ∙ sym (item_is rec k item (omega (arith, length-append rec.checkpoints (rec.last ∷ []))))

-- what is listed up to the next checkpoint
pub listed_to-suc : (rec : Recording) (k : ℕ) → k < end_place rec → listed_to rec (suc k) ≡ listed_to rec k ++ (checkpoint_at rec (suc k)).pages
listed_to-suc rec k within =
    let item : CheckpointData = checkpoint_at rec (suc k) in
    let one : suc k ≡ k + 1 = omega arith in
    let long : k < length (all_checkpoints rec) = omega (arith, length-append rec.checkpoints (rec.last ∷ [])) in
    ap (λ n. listings (take n (all_checkpoints rec))) one
    ∙ ap listings (take_item (all_checkpoints rec) k item long (item_at rec k item within refl))
    ∙ flat_map-append (λ (c : CheckpointData). c.pages) (take k (all_checkpoints rec)) (item ∷ [])
    ∙ ap (λ l. listed_to rec k ++ l) (append-nil item.pages)

pub listed_to-next : (rec : Recording) (k : ℕ) → k < end_place rec → listed_to rec (k + 1) ≡ listed_to rec k ++ (checkpoint_at rec (k + 1)).pages
listed_to-next rec k within =
    let one : k + 1 ≡ suc k = omega arith in
    ap (listed_to rec) one ∙ listed_to-suc rec k within ∙ sym (ap (λ n. listed_to rec k ++ (checkpoint_at rec n).pages) one)

pub listed_to-before : (rec : Recording) (k : ℕ) → 0 < k → k ≤ end_place rec → listed_to rec k ≡ listed_to rec (k - 1) ++ (checkpoint_at rec k).pages
listed_to-before rec zero some within = absurd (omega arith)
listed_to-before rec (suc k) some within =
    let one : suc k - 1 ≡ k = omega arith in
    listed_to-suc rec k within ∙ sym (ap (λ n. listed_to rec n ++ (checkpoint_at rec (suc k)).pages) one)

pub all_listed_to : (rec : Recording) (k : ℕ) → IsRecordingValue rec → AllByRecursion IsListedPage (listed_to rec k)
all_listed_to rec k is = all_listed (take k (all_checkpoints rec)) (all_take IsCheckpoint k (all_checkpoints rec) (each_checkpoint rec is))

-- a checkpoint meets the rules
some_is : {X : Type 0} (P : X → Type 0) (xs : List X) (i : ℕ) → AllByRecursion P xs → IfSome (slice_get xs i) P
some_is P [] i all = tt
some_is P (x ∷ xs) zero all = all.0
some_is P (x ∷ xs) (suc i) all = some_is P xs i all.1

or_last_is : (rec : Recording) (o : Option CheckpointData) → IfSome o IsCheckpoint → IsCheckpoint rec.last → IsCheckpoint (unwrap_or o rec.last)
or_last_is rec None it last = last
or_last_is rec (Some c) it last = it

pub IsCheckpoint-at : (rec : Recording) (k : ℕ) → IsRecordingValue rec → IsCheckpoint (checkpoint_at rec k)
IsCheckpoint-at rec k is = or_last_is rec (slice_get rec.checkpoints (k - 1)) (some_is IsCheckpoint rec.checkpoints (k - 1) is.each_checkpoint) is.last
