-- That each generated source assembles.
use Rattle.std.proofs.Common.{◌≡◌, ℕ, ◌+◌, ◌^◌, ◌<◌, ◌≤◌, ◌⊎◌, inl, inr, Bool, cond, true, false, List, [], ◌∷◌, ◌++◌, length, drop, map, refl, sym, ap, subst, ◌∙◌, arith, append_assoc, length-append}
use Rattle.std.specs.Prelude.{None, Ok, Err, codes, decimal, ◌==◌}
use Rattle.std.specs.Str.Lines.{lines}
use Rattle.std.specs.List.{All, AllByRecursion}
use Rattle.std.proofs.lemmas.Bool.{false_from_ne_true, eqb-true}
use Rattle.std.proofs.lemmas.Fmt.{length-decimal-le}
use Rattle.std.proofs.lemmas.Bool.Decides.{nat_tests}
use Rattle.std.proofs.lemmas.List.Elements.{All-from_recursion, All-append, All-weaker}
use Rattle.sl_base.specs.declared.refused.Refused.{Refused}
use Rattle.sl_base.specs.declared.refused.Refused.TheVariants as refused
use Rattle.sl_base.specs.Refusals.{Fails}
use Rattle.asm_text.specs.declared.fault.AsmFault.{AsmFault}
use Rattle.asm_text.specs.declared.mnemonic.Section.TheVariants.{Text, Data}
use Rattle.asm_text.specs.Bytes.{is_digit}
use Rattle.asm_text.specs.Lines.{labels_within, statement_within}
use Rattle.asm_text.specs.Names.{register_named}
use Rattle.asm_text.specs.Statements.{is_short, loaded, statement_of}
use Rattle.asm_text.proofs.Decimals.{decimal_is}
use Rattle.asm_text.proofs.LoadImmediates.{IsPlain, li_line, li_labels, li_statement}
use Rattle.rv_asm.specs.declared.place.Label.{Label}
use Rattle.rv_asm.specs.declared.place.Place.{Place}
use Rattle.rv_asm.specs.declared.table.Table.{Table}
use Rattle.rv_asm.specs.Places.{start, after_statement, after_reading, size_in, place_after, end_of, data_start}
use Rattle.rv_asm.specs.Labels.{label_at, labels_in, doubled_line}
use Rattle.rv_asm.specs.Lines.{label_cause, statement_cause, reading_cause, line_cause, told, first_fault}
use Rattle.rv_asm.specs.Output.{bytes_in}
use Rattle.rv_asm.specs.Assembly.{table_of, image_from, assembly}
use Rattle.rv_asm.proofs.AssemblyLaws.{assembled}
use Rattle.rv_asm.proofs.LineEnds.{line_up_to}
use Rattle.rv_asm.proofs.LoadLines.{Says, in_text, load_size, load_after, load_fine}
use Rattle.rv_asm.proofs.SizeLaws.{section_len}
use Rattle.workload.specs.Source.{before_seed, before_size, behind_size, source_text}
use Rattle.workload.specs.Laws.{Assembles, EveryProgramAssembles}
use Rattle.workload.proofs.Body.{body, labels_at, table_at, IsFine, fine_8, fine_12, fine_16}

-- ---- the lines

abbrev first : List ℕ
first = codes "_start:"

abbrev seed_line : ℕ → List ℕ
seed_line seed = li_line (codes "s0") seed

abbrev size_line : ℕ → List ℕ
size_line size = li_line (codes "s1") size

abbrev all_lines : ℕ → ℕ → List (List ℕ)
all_lines seed size = first ∷ seed_line seed ∷ size_line size ∷ body

abbrev Above : ℕ → Type 0
Above b = 13 < b

digit_above : (b : ℕ) → is_digit b ≡ true → Above b
digit_above b is = grind (arith, nat_tests)

decimal_above : (n : ℕ) → n < 2 ^ 32 → All Above (decimal n)
decimal_above n small = All-weaker (λ b. is_digit b ≡ true) Above digit_above (decimal n) (decimal_is n (omega arith)).digits

abbrev AreAbove : List ℕ → Type 0
AreAbove bs = AllByRecursion Above bs

first_above : All Above first
first_above = All-from_recursion Above first (omega arith, (omega arith, (omega arith, (omega arith, (omega arith, (omega arith, (omega arith, tt)))))))

front_above : (name : ℕ) → 13 < name → (n : ℕ) → n < 2 ^ 32 → All Above (li_line (115 ∷ name ∷ []) n)
front_above name more n small =
    All-append Above (32 ∷ 108 ∷ 105 ∷ 32 ∷ 115 ∷ name ∷ 44 ∷ 32 ∷ []) (decimal n)
    (All-from_recursion Above (32 ∷ 108 ∷ 105 ∷ 32 ∷ 115 ∷ name ∷ 44 ∷ 32 ∷ []) (omega arith, (omega arith, (omega arith, (omega arith, (omega arith, (more, (omega arith, (omega arith, tt)))))))))
    (decimal_above n small)

nested : (a b c d e : List ℕ) → a ++ b ++ c ++ d ++ e ≡ a ++ (b ++ (c ++ (d ++ e)))
nested a b c d e =
    append_assoc (a ++ b ++ c) d e ∙ append_assoc (a ++ b) c (d ++ e) ∙ append_assoc a b (c ++ (d ++ e))

same_text : (seed size : ℕ) → source_text seed size ≡ first ++ 10 ∷ (seed_line seed ++ 10 ∷ (size_line size ++ 10 ∷ drop 1 behind_size))
same_text seed size = nested before_seed (decimal seed) before_size (decimal size) behind_size

lines_are : (seed size : ℕ) → seed < 2 ^ 32 → size < 2 ^ 32 → lines (source_text seed size) ≡ all_lines seed size
lines_are seed size small few =
    ap lines (same_text seed size)
    ∙ line_up_to first (seed_line seed ++ 10 ∷ (size_line size ++ 10 ∷ drop 1 behind_size)) first_above
    ∙ ap (λ (ls : List (List ℕ)). first ∷ ls) (line_up_to (seed_line seed) (size_line size ++ 10 ∷ drop 1 behind_size) (front_above 48 (omega arith) seed small)
    ∙ ap (λ (ls : List (List ℕ)). seed_line seed ∷ ls) (line_up_to (size_line size) (drop 1 behind_size) (front_above 49 (omega arith) size few)))

-- ---- the two that put a number into a register

plain : (name : ℕ) → is_digit name ≡ true → All IsPlain (115 ∷ name ∷ [])
plain name is = All-from_recursion IsPlain (115 ∷ name ∷ []) (
  record { no_blank = refl; no_comma = refl; no_comment = refl },
  (record { no_blank = grind (arith, nat_tests); no_comma = grind (arith, nat_tests); no_comment = grind (arith, nat_tests) }, tt),
)

seed_says : (seed : ℕ) → seed < 2 ^ 32 → Says (seed_line seed) (loaded 8 seed)
unfolding register_named
seed_says seed small = record {
  labels = li_labels (codes "s0") seed (plain 48 refl) small;
  said = li_statement 8 seed (codes "s0") (plain 48 refl) refl small;
}

size_says : (size : ℕ) → size < 2 ^ 32 → Says (size_line size) (loaded 9 size)
unfolding register_named
size_says size small = record {
  labels = li_labels (codes "s1") size (plain 49 refl) small;
  said = li_statement 9 size (codes "s1") (plain 49 refl) refl small;
}

-- ---- the first line

first_labels : (ls : List (List ℕ)) → labels_in start 1 (first ∷ ls) ≡ label_at start 1 (codes "_start") ∷ labels_in (in_text 0) 2 ls
unfolding labels_within place_after after_reading statement_of statement_within after_statement size_in
first_labels ls = refl

first_after : place_after start first ≡ in_text 0
unfolding labels_within place_after after_reading statement_of statement_within after_statement size_in
first_after = refl

first_fine : (table : Table) → doubled_line table.labels ≡ None → line_cause table start 1 first ≡ None
unfolding line_cause reading_cause statement_cause label_cause labels_within place_after after_reading statement_of statement_within after_statement size_in
first_fine table single = rw single refl

-- ---- any two lines that put words into registers, before the body

module _ (second third : List ℕ) (rd re a b : ℕ) (seed_is : Says second (loaded rd a)) (size_is : Says third (loaded re b)) where
  abbrev ls : List (List ℕ)
  ls = first ∷ second ∷ third ∷ body

  abbrev behind : ℕ
  behind = load_size a + load_size b

  after_second : place_after (in_text 0) second ≡ in_text (load_size a)
  after_second = load_after second rd a 0 seed_is ∙ ap in_text (omega arith)

  after_third : place_after (in_text (load_size a)) third ≡ in_text behind
  after_third = load_after third re b (load_size a) size_is

  end_is : end_of start ls ≡ end_of (in_text behind) body
  end_is =
      ap (λ (p : Place). end_of p (second ∷ third ∷ body)) first_after
      ∙ ap (λ (p : Place). end_of p (third ∷ body)) after_second
      ∙ ap (λ (p : Place). end_of p body) after_third

  labels_are : labels_in start 1 ls ≡ labels_at behind
  labels_are =
      first_labels (second ∷ third ∷ body)
      ∙ ap (λ (rest : List Label). label_at start 1 (codes "_start") ∷ rest) (
      ap (λ (names : List (List ℕ)). map (label_at (in_text 0) 2) names ++ labels_in (place_after (in_text 0) second) 3 (third ∷ body)) seed_is.labels
      ∙ ap (λ (p : Place). labels_in p 3 (third ∷ body)) after_second
      ∙ ap (λ (names : List (List ℕ)). map (label_at (in_text (load_size a)) 3) names ++ labels_in (place_after (in_text (load_size a)) third) 4 body) size_is.labels
      ∙ ap (λ (p : Place). labels_in p 4 body) after_third)

  table_is : table_of ls ≡ table_at behind
  unfolding table_of
  table_is =
      ap (λ (labels : List Label). record { labels = labels; data_start = data_start (end_of start ls).text_size }) labels_are
      ∙ ap (λ (p : Place). record { labels = labels_at behind; data_start = data_start p.text_size }) end_is

  faultless : IsFine behind → behind ≤ 16 → first_fault (table_at behind) start 1 ls ≡ None
  faultless fine few =
      let table : Table = table_at behind in
      ap (λ c. told 1 c (first_fault table (place_after start first) 2 (second ∷ third ∷ body))) (first_fine table fine.single)
      ∙ ap (λ (p : Place). first_fault table p 2 (second ∷ third ∷ body)) first_after
      ∙ ap (λ c. told 2 c (first_fault table (place_after (in_text 0) second) 3 (third ∷ body))) (load_fine table second rd a 0 2 seed_is fine.single (omega arith))
      ∙ ap (λ (p : Place). first_fault table p 3 (third ∷ body)) after_second
      ∙ ap (λ c. told 3 c (first_fault table (place_after (in_text (load_size a)) third) 4 body)) (load_fine table third re b (load_size a) 3 size_is fine.single (omega arith))
      ∙ ap (λ (p : Place). first_fault table p 4 body) after_third
      ∙ fine.faultless

  text_some : IsFine behind → behind ≤ 16 → (length (bytes_in Text (table_at behind) start ls) == 0) ≡ false
  text_some fine few =
      let len = section_len Text (table_at behind) start 1 ls (faultless fine few) in
      let some = fine.some in
      let same = ap (λ (p : Place). p.text_size) end_is in
      false_from_ne_true _ (λ is. let none = eqb-true _ 0 is in omega (arith, len, some, same, none))

-- ---- the whole

source_short : (seed size : ℕ) → seed < 2 ^ 32 → size < 2 ^ 32 → length (source_text seed size) ≤ 2 ^ 20
source_short seed size small few =
    let a = length-decimal-le 10 seed (omega arith) (omega arith) (omega arith) in
    let b = length-decimal-le 10 size (omega arith) (omega arith) (omega arith) in
    let c = length-append (decimal seed) (before_size ++ (decimal size ++ behind_size)) in
    let d = length-append (decimal size) behind_size in
    let same : length (source_text seed size) ≡ length (before_seed ++ (decimal seed ++ (before_size ++ (decimal size ++ behind_size)))) = ap length (nested before_seed (decimal seed) before_size (decimal size) behind_size) in
    omega (arith, a, b, c, d, same)

image_is : (seed size behind : ℕ) → seed < 2 ^ 32 → size < 2 ^ 32 → behind ≡ load_size seed + load_size size → behind ≤ 16 → IsFine behind → Assembles seed size
image_is seed size behind small few behind_is within fine =
    let is : IsFine (load_size seed + load_size size) = subst IsFine behind_is fine in
    let at : ℕ = load_size seed + load_size size in
    let ls : List (List ℕ) = all_lines seed size in
    let table : Table = table_at at in
    let text : List ℕ = bytes_in Text table start ls in
    let bytes : List ℕ = bytes_in Data table start ls in
    let are = lines_are seed size small few in
    let seed_is = seed_says seed small in
    let size_is = size_says size few in
    let clean = faultless (seed_line seed) (size_line size) 8 9 seed size seed_is size_is is (omega arith) in
    record {
      image = image_from table text bytes;
      address = 0x10000 + at + 52;
      assembled = assembled (source_text seed size) table text bytes (source_short seed size small few)
          (sym (ap table_of are ∙ table_is (seed_line seed) (size_line size) 8 9 seed size seed_is size_is))
          (ap (first_fault table start 1) are ∙ clean)
          (sym (ap (bytes_in Text table start) are))
          (sym (ap (bytes_in Data table start) are))
          (text_some (seed_line seed) (size_line size) 8 9 seed size seed_is size_is is (omega arith));
      marked = is.marked;
      script = is.script;
    }

four_or_eight : (short : Bool) (n : ℕ) → n ≡ cond short 4 8 → (n ≡ 4) ⊎ (n ≡ 8)
four_or_eight true n is = inl is
four_or_eight false n is = inr is

pub every_program : EveryProgramAssembles
every_program seed size small some most =
    elim (four_or_eight (is_short seed) (load_size seed) refl) [
      | inl a ↦ elim (four_or_eight (is_short size) (load_size size) refl) [
        | inl b ↦ image_is seed size 8 small (omega arith) (omega (arith, a, b)) (omega arith) fine_8
        | inr b ↦ image_is seed size 12 small (omega arith) (omega (arith, a, b)) (omega arith) fine_12
      ]
      | inr a ↦ elim (four_or_eight (is_short size) (load_size size) refl) [
        | inl b ↦ image_is seed size 12 small (omega arith) (omega (arith, a, b)) (omega arith) fine_12
        | inr b ↦ image_is seed size 16 small (omega arith) (omega (arith, a, b)) (omega arith) fine_16
      ]
    ]

-- the assembler tells no fault of it
pub no_fault : (seed size : ℕ) → seed < 2 ^ 32 → 1 ≤ size → size ≤ 1000000 → (why : Refused AsmFault) (told : AsmFault) (source : List ℕ) → why ≡ refused.Fault told → source ≡ source_text seed size
    → Fails why (assembly source) → ⊥
no_fault seed size small some most why told source why_is source_is fails =
    let of : Assembles seed size = every_program seed size small some most in
    let due : assembly source ≡ Err told = subst (λ (w : Refused AsmFault). Fails w (assembly source)) why_is fails in
    let both : Ok of.image ≡ Err told = sym of.assembled ∙ sym (ap assembly source_is) ∙ due in
    cc
