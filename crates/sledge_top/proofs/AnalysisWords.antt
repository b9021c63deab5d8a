-- Words of analyses, as the code reads them one after the other.
use Rattle.std.proofs.Common.{◌≡◌, ℕ, ◌+◌, ◌<◌, List, [], ◌∷◌, ◌++◌, length, drop, get_or, Option, Some, None, Result, Ok, Err, Bor, refl, sym, ap, subst, ◌∙◌, append_assoc}
use Rattle.std.specs.Prelude.{MatchOption}
use Rattle.std.proofs.lemmas.List.{drop_more}
use Rattle.analysers.specs.declared.kind.Kind.{Kind}
use Rattle.analysers.specs.declared.kind.KindOf.{KindOf}
use Rattle.analysers.specs.Kinds.{kind_of}
use Rattle.cli_words.specs.Views.{words_view}
use Rattle.report.specs.declared.status.Refusal.{Refusal}
use Rattle.report.specs.declared.status.Refusal.TheVariants as refusal
use Rattle.sledge_top.proofs.KindCodes.{reads_once}
use Rattle.sledge_top.specs.Kinds.{kind_with, kind_named, before, kinds_from}

-- some kinds in front of what further words come to
abbrev pub in_front : List Kind → Result (List Kind) Refusal → Result (List Kind) Refusal
in_front kinds (Ok more) = Ok (kinds ++ more)
in_front kinds (Err why) = Err why

one_more : (kinds : List Kind) (kind : Kind) (position : ℕ) (rest : Result (List Kind) Refusal)
    → in_front kinds (before position (Some kind) rest) ≡ in_front (kinds ++ kind ∷ []) rest
one_more kinds kind position (Ok more) = ap Ok (sym (append_assoc kinds (kind ∷ []) more))
one_more kinds kind position (Err why) = refl

-- what the words from a place on come to, by the word there
at_place : (kinds : List Kind) (words : List (Bor (List ℕ))) (i position : ℕ) (d : Bor (List ℕ))
    → i < length words
    → in_front kinds (kinds_from position (words_view (drop i words)))
    ≡ in_front kinds (before position (kind_named (get_or words i d).now) (kinds_from (position + 1) (words_view (drop (i + 1) words))))
at_place kinds words i position d within =
    ap (λ (ws : List (Bor (List ℕ))). in_front kinds (kinds_from position (words_view ws))) (drop_more words i d within)

-- the word at a place names a kind
pub goes_on : (kinds : List Kind) (words : List (Bor (List ℕ))) (i position : ℕ) (d : Bor (List ℕ)) (kind : Kind)
    → i < length words → kind_named (get_or words i d).now ≡ Some kind
    → in_front kinds (kinds_from position (words_view (drop i words)))
    ≡ in_front (kinds ++ kind ∷ []) (kinds_from (position + 1) (words_view (drop (i + 1) words)))
goes_on kinds words i position d kind within is =
    at_place kinds words i position d within
    ∙ ap (λ (k : Option Kind). in_front kinds (before position k (kinds_from (position + 1) (words_view (drop (i + 1) words))))) is
    ∙ one_more kinds kind position (kinds_from (position + 1) (words_view (drop (i + 1) words)))

-- it names none
pub stops_at : (kinds : List Kind) (words : List (Bor (List ℕ))) (i position : ℕ) (d : Bor (List ℕ))
    → i < length words → kind_named (get_or words i d).now ≡ None
    → in_front kinds (kinds_from position (words_view (drop i words))) ≡ Err (refusal.AnalysisRefused position)
stops_at kinds words i position d within is =
    at_place kinds words i position d within
    ∙ ap (λ (k : Option Kind). in_front kinds (before position k (kinds_from (position + 1) (words_view (drop (i + 1) words))))) is

-- ---- the kind of a word

abbrev made_of : (word : List ℕ) (what : KindOf) → kind_of word ≡ Some what → Kind
made_of word what reads = record { word = word; what = what; reads = reads }

-- two analyses with one word that say the same are one
made_so : (word : List ℕ) (what : KindOf) (reads : kind_of word ≡ Some what) (other : List ℕ) (says : KindOf) (so : kind_of other ≡ Some says)
    → word ≡ other → what ≡ says → made_of word what reads ≡ made_of other says so
made_so word what reads other says so same what_is =
    let Whole : (List ℕ × KindOf) → Type 0 = λ p. (r : kind_of p.0 ≡ Some p.1) → made_of word what reads ≡ made_of p.0 p.1 r in
    let here : Whole (word, what) = λ r. ap (made_of word what) (reads_once word what reads r) in
    let pair : ◌≡◌ {A = List ℕ × KindOf} (word, what) (other, says) = cc in
    subst Whole pair here so

some_with : (word : List ℕ) (o : Option KindOf) (is : kind_of word ≡ o) (kind : Kind)
    → kind.word ≡ word → o ≡ Some kind.what → kind_with word o is ≡ Some kind
some_with word None is kind same what = absurd cc
some_with word (Some found) is kind same what =
    let found_is : found ≡ kind.what = cc in
    ap Some (made_so word found is kind.word kind.what kind.reads (sym same) found_is)

pub names_it : (word : List ℕ) (kind : Kind) → kind.word ≡ word → kind_named word ≡ Some kind
names_it word kind same = some_with word (kind_of word) refl kind same (ap kind_of (sym same) ∙ kind.reads)

none_with : (word : List ℕ) (o : Option KindOf) (is : kind_of word ≡ o) → o ≡ None → kind_with word o is ≡ None
none_with word None is none = refl
none_with word (Some found) is none = absurd cc

pub names_none : (word : List ℕ) → kind_of word ≡ None → kind_named word ≡ None
names_none word none = none_with word (kind_of word) refl none

pub names_found : (word : List ℕ) (found : Option Kind) (kind : Kind) → found ≡ Some kind
    → MatchOption found (kind_of word ≡ None) (λ k. k.word ≡ word) → kind_named word ≡ Some kind
names_found word found kind is so =
    names_it word kind (subst (λ o. MatchOption o (kind_of word ≡ None) (λ k. k.word ≡ word)) is so)
