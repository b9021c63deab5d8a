-- How many bytes the parts of a recording take.
use Rattle.std.proofs.Common.{◌≡◌, ℕ, ◌+◌, ◌*◌, ◌≤◌, List, [], ◌∷◌, ◌++◌, length, take, refl, sym, ap, ◌∙◌, arith}
use Rattle.std.specs.List.{flat_map, AllByRecursion}
use Rattle.std.proofs.lemmas.List.{length-append, take_all}
use Rattle.call_log.specs.declared.entry.CallEntry.{CallEntry}
use Rattle.call_log.specs.declared.entry.End.{End}
use Rattle.call_log.specs.declared.entry.End.TheVariants as ends
use Rattle.rec_format.specs.declared.recording.ListedPage.{ListedPage}
use Rattle.rec_format.specs.declared.recording.CheckpointData.{CheckpointData}
use Rattle.rec_format.specs.declared.recording.Recording.{Recording}
use Rattle.rec_format.specs.Rules.{IsCallEntry, IsListedPage, IsCheckpoint}
use Rattle.rec_format.specs.Spelling.{name, version, word, double_word, sized, counted, call, listed_page, checkpoint, end_of_run, spelling}

pub length-word : (n : ℕ) → length (word n) ≡ 4
unfolding word
length-word n = refl

length-double_word : (n : ℕ) → length (double_word n) ≡ 8
unfolding double_word
length-double_word n = refl

pub length-sized : (bytes : List ℕ) → length (sized bytes) ≡ 4 + length bytes
unfolding sized
length-sized bytes = omega (arith, length-append (word (length bytes)) bytes, length-word (length bytes))

pub length-counted : {X : Type 0} (text : X → List ℕ) (xs : List X) → length (counted text xs) ≡ 4 + length (flat_map text xs)
unfolding counted
length-counted text xs = omega (arith, length-append (word (length xs)) (flat_map text xs), length-word (length xs))

length-words : (words : List ℕ) → length (flat_map word words) ≡ 4 * length words
length-words [] = refl
length-words (n ∷ ns) = omega (arith, length-append (word n) (flat_map word ns), length-word n, length-words ns)

pub length-call : (entry : CallEntry) → IsCallEntry entry → length (call entry) ≡ 36 + length entry.bytes
unfolding call
length-call entry fits =
    let number = word entry.call.number in
    let args = flat_map word entry.call.args in
    let result = word entry.result in
    omega (arith, length-append (number ++ args ++ result) (sized entry.bytes), length-append (number ++ args) result, length-append number args, length-word entry.call.number, length-words entry.call.args, fits.args.number, length-word entry.result, length-sized entry.bytes)

length-pages : (pages : List ListedPage) → AllByRecursion IsListedPage pages → length (flat_map listed_page pages) ≡ 4100 * length pages
unfolding listed_page
length-pages [] each = refl
length-pages (page ∷ pages) each =
    omega (arith, length-append (word page.number ++ page.bytes) (flat_map listed_page pages), length-append (word page.number) page.bytes, length-word page.number, each.0.bytes, length-pages pages each.1)

pub length-checkpoint : (c : CheckpointData) → IsCheckpoint c → length (checkpoint c) ≡ 152 + 4100 * length c.pages
unfolding checkpoint
length-checkpoint c fits =
    let count = double_word c.count in
    let registers = flat_map word c.x in
    let pc = count ++ word c.pc in
    let x = pc ++ registers in
    let brk = x ++ word c.brk in
    let brk_end = brk ++ word c.brk_end in
    let next_call = brk_end ++ word c.next_call in
    omega (arith, length-double_word c.count, length-append count (word c.pc), length-word c.pc, length-append pc registers, length-words c.x, fits.x.number, length-append x (word c.brk), length-word c.brk, length-append brk (word c.brk_end), length-word c.brk_end, length-append brk_end (word c.next_call), length-word c.next_call, length-append next_call (counted listed_page c.pages), length-counted listed_page c.pages, length-pages c.pages fits.each_page)

length-end : (end : End) → length (end_of_run end) ≡ 8
unfolding end_of_run word
length-end (ends.Exited code) = refl
length-end (ends.Trapped trap) = refl
length-end ends.Stopped = refl

length-front : length (name ++ version) ≡ 8
unfolding name version
length-front = refl

-- the spelling's length by its parts
pub length-spelling : (rec : Recording) → length (spelling rec) ≡ 24 + length (sized rec.image) + length (counted sized rec.args) + length (counted call rec.calls) + length (counted checkpoint rec.checkpoints) + length (checkpoint rec.last)
unfolding spelling
length-spelling rec =
    let front = name ++ version in
    let kind = front ++ word rec.kind in
    let load_addr = kind ++ word rec.load_addr in
    let image = load_addr ++ sized rec.image in
    let args = image ++ counted sized rec.args in
    let calls = args ++ counted call rec.calls in
    let checkpoints = calls ++ counted checkpoint rec.checkpoints in
    let end = checkpoints ++ end_of_run rec.end in
    omega (arith, length-front, length-append front (word rec.kind), length-word rec.kind, length-append kind (word rec.load_addr), length-word rec.load_addr, length-append load_addr (sized rec.image), length-append image (counted sized rec.args), length-append args (counted call rec.calls), length-append calls (counted checkpoint rec.checkpoints), length-append checkpoints (end_of_run rec.end), length-end rec.end, length-append end (checkpoint rec.last))

-- the items before the end of the list are all of them
pub whole_length : {X : Type 0} (text : X → List ℕ) (xs : List X) (i n : ℕ) → n ≡ 4 + length (flat_map text (take i xs)) → length xs ≤ i → n ≡ length (counted text xs)
whole_length text xs i n e le = e ∙ ap (λ ys. 4 + length (flat_map text ys)) (take_all i xs le) ∙ sym (length-counted text xs)
