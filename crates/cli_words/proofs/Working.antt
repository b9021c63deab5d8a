-- Words that differ in `--workers` and `--epochs` alone name commands that differ in these alone.
use Rattle.std.proofs.Common.{◌≡◌, ◌≢◌, ℕ, Bool, true, false, List, [], ◌∷◌, length, codes, Option, Some, None, refl, sym, ap, ◌∙◌}
use Rattle.std.specs.Prelude.{◌==◌, ◌&&◌, ◌||◌, not, if◌then◌else◌}
use Rattle.std.specs.List.{list_all}
use Rattle.std.specs.Str.{bytes_eq}
use Rattle.std.specs.Option.{IsSome, option_map, option_and_then}
use Rattle.std.proofs.lemmas.Slice.Eq.{bytes_eq-Decides}
use Rattle.cli_words.specs.Parts.{Setting, Parts, parts_of}
use Rattle.cli_words.specs.Numbers.{hex_value, number}
use Rattle.cli_words.specs.Orders.{◌>>=◌, TraceOptions, Order, Trace, TraceAt, two, three, value_of, values_of, is_among, are_among, optional, with_default, at_most, or_all, analyses_of, trace_options, trace, trace_at, takes, row_of, order_from, order_of}
use Rattle.cli_words.specs.Working.{is_of_work, without_work, but_for_work, DifferInWork, alone, worked_alone}

-- ---- names of options

same_work : (name other : List ℕ) → bytes_eq name other ≡ true → is_of_work name ≡ is_of_work other
same_work name other is = ap is_of_work ((bytes_eq-Decides name other).0 is)

apart : (name other : List ℕ) (equal : Bool) → bytes_eq name other ≡ equal → is_of_work name ≢ is_of_work other → equal ≡ false
apart name other false is differ = refl
apart name other true is differ = absurd (differ (same_work name other is))

unlike : (a b : Bool) → a ≡ true → b ≡ false → a ≢ b
unlike a b is_true is_false same = cc

unlike_too : (a b : Bool) → a ≡ false → b ≡ true → a ≢ b
unlike_too a b is_false is_true same = cc

both : (a b : Bool) → (a && b) ≡ true → (a ≡ true) × (b ≡ true)
both true b is = (refl, is)
both false b is = absurd cc

not_true : (b : Bool) → not b ≡ true → b ≡ false
not_true false is = refl
not_true true is = absurd cc

first_or : (name other : List ℕ) (equal rest : Bool) → bytes_eq name other ≡ equal → is_of_work other ≡ false → (equal || rest) ≡ true → (rest ≡ true → is_of_work name ≡ false) → is_of_work name ≡ false
first_or name other true rest is none among later = same_work name other is ∙ none
first_or name other false rest is none among later = later among

none_of_work : (names : List (List ℕ)) (name : List ℕ) → list_all (λ (n : List ℕ). not (is_of_work n)) names ≡ true → is_among names name ≡ true → is_of_work name ≡ false
none_of_work [] name none among = absurd cc
none_of_work (other ∷ names) name none among =
    let h = both (not (is_of_work other)) (list_all (λ (n : List ℕ). not (is_of_work n)) names) none in
    first_or name other (bytes_eq name other) (is_among names name) refl (not_true (is_of_work other) h.0) among (λ later. none_of_work names name h.1 later)

-- ---- options that are left

values_by : (name : List ℕ) (s : Setting) (rest : List Setting) (of_work : Bool) → is_of_work s.name ≡ of_work → is_of_work name ≡ false → values_of name (without_work rest) ≡ values_of name rest
    → values_of name (if of_work then without_work rest else s ∷ without_work rest) ≡ values_of name (s ∷ rest)
values_by name s rest true is other kept =
    kept ∙ sym (ap (λ (b : Bool). if b then s.value ∷ values_of name rest else values_of name rest) (apart s.name name (bytes_eq s.name name) refl (unlike (is_of_work s.name) (is_of_work name) is other)))
values_by name s rest false is other kept = ap (λ (vs : List (List ℕ)). if bytes_eq s.name name then s.value ∷ vs else vs) kept

values_kept : (name : List ℕ) (settings : List Setting) → is_of_work name ≡ false → values_of name (without_work settings) ≡ values_of name settings
values_kept name [] other = refl
values_kept name (s ∷ rest) other = values_by name s rest (is_of_work s.name) refl other (values_kept name rest other)

value_by : (name : List ℕ) (s : Setting) (rest : List Setting) (of_work : Bool) → is_of_work s.name ≡ of_work → is_of_work name ≡ true → value_of name (without_work rest) ≡ None
    → value_of name (if of_work then without_work rest else s ∷ without_work rest) ≡ None
value_by name s rest true is own none = none
value_by name s rest false is own none =
    ap (λ (b : Bool). if b then Some s.value else value_of name (without_work rest)) (apart s.name name (bytes_eq s.name name) refl (unlike_too (is_of_work s.name) (is_of_work name) is own)) ∙ none

none_left : (name : List ℕ) (settings : List Setting) → is_of_work name ≡ true → value_of name (without_work settings) ≡ None
none_left name [] own = refl
none_left name (s ∷ rest) own = value_by name s rest (is_of_work s.name) refl own (none_left name rest own)

-- where no option is of work, all are left
all_left : (names : List (List ℕ)) (settings : List Setting) → list_all (λ (n : List ℕ). not (is_of_work n)) names ≡ true → are_among names settings ≡ true → without_work settings ≡ settings
all_left names [] none all = refl
all_left names (s ∷ rest) none all =
    let h = both (is_among names s.name) (are_among names rest) all in
    ap (λ (b : Bool). if b then without_work rest else s ∷ without_work rest) (none_of_work names s.name none h.0) ∙ ap (λ (left : List Setting). s ∷ left) (all_left names rest none h.1)

-- ---- the options of a trace

made : Option ℕ → Option (Option ℕ) → Option (List (List ℕ)) → Option TraceOptions
made w e a = w >>= λ (workers : ℕ). e >>= λ (epochs : Option ℕ). a >>= λ (analyses : List (List ℕ)). Some (record { workers = workers; epochs = epochs; analyses = analyses })

has_analyses : (w : Option ℕ) (e : Option (Option ℕ)) (a : Option (List (List ℕ))) (options : TraceOptions) → made w e a ≡ Some options → a ≡ Some options.analyses
unfolding made
has_analyses None e a options is = absurd cc
has_analyses (Some w) None a options is = absurd cc
has_analyses (Some w) (Some e) None options is = absurd cc
has_analyses (Some w) (Some e) (Some a) options is =
    let same : record { workers = w; epochs = e; analyses = a } ≡ options = cc in
    ap (λ (o : TraceOptions). Some o.analyses) same

options_left : (settings : List Setting) (options : TraceOptions) → trace_options settings ≡ Some options → trace_options (without_work settings) ≡ Some (alone options)
unfolding made
options_left settings options is =
    let left = without_work settings in
    let workers = with_default 1 (number 1 16) (value_of (codes "--workers") settings) in
    let epochs = optional (number 1 4096) (value_of (codes "--epochs") settings) in
    let analyses : analyses_of left ≡ Some options.analyses =
    ap (λ (vs : List (List ℕ)). option_map or_all (at_most 32 vs)) (values_kept (codes "--analyse") settings refl) ∙ has_analyses workers epochs (analyses_of settings) options is in
    ap (λ (v : Option (List ℕ)). made (with_default 1 (number 1 16) v) (optional (number 1 4096) (value_of (codes "--epochs") left)) (analyses_of left)) (none_left (codes "--workers") settings refl)
    ∙ ap (λ (v : Option (List ℕ)). made (Some 1) (optional (number 1 4096) v) (analyses_of left)) (none_left (codes "--epochs") settings refl)
    ∙ ap (made (Some 1) (Some None)) analyses

-- ---- the rows of a trace

by_script : Option (List ℕ × List ℕ) → Option TraceOptions → Option Order
by_script words options = words >>= λ (words : List ℕ × List ℕ). options >>= λ (options : TraceOptions). if bytes_eq words.1 (codes "at") then None else Some (Trace words.0 words.1 options)

script_named : (words : List ℕ × List ℕ) (options : TraceOptions) (order : Order) (is_at : Bool) → ◌≡◌ {A = Option Order} (if is_at then None else Some (Trace words.0 words.1 options)) (Some order)
    → option_map worked_alone (if is_at then None else Some (Trace words.0 words.1 (alone options))) ≡ Some (worked_alone order)
script_named words options order true is = absurd cc
script_named words options order false is = ap (option_map worked_alone) is

script_row : (words : Option (List ℕ × List ℕ)) (options left : Option TraceOptions) (order : Order) → by_script words options ≡ Some order → ((o : TraceOptions) → options ≡ Some o → left ≡ Some (alone o))
    → option_map worked_alone (by_script words left) ≡ Some (worked_alone order)
unfolding by_script
script_row None options left order is kept = absurd cc
script_row (Some words) None left order is kept = absurd cc
script_row (Some words) (Some o) left order is kept =
    ap (λ (l : Option TraceOptions). option_map worked_alone (by_script (Some words) l)) (kept o refl) ∙ script_named words o order (bytes_eq words.1 (codes "at")) is

at_address : (recording word : List ℕ) → Option ℕ → Option TraceOptions → Option Order
at_address recording word address options = address >>= λ (address : ℕ). options >>= λ (options : TraceOptions). if bytes_eq word (codes "at") then Some (TraceAt recording address options) else None

address_named : (recording : List ℕ) (address : ℕ) (options : TraceOptions) (order : Order) (is_at : Bool) → ◌≡◌ {A = Option Order} (if is_at then Some (TraceAt recording address options) else None) (Some order)
    → option_map worked_alone (if is_at then Some (TraceAt recording address (alone options)) else None) ≡ Some (worked_alone order)
address_named recording address options order true is = ap (option_map worked_alone) is
address_named recording address options order false is = absurd cc

address_row : (recording word : List ℕ) (address : Option ℕ) (options left : Option TraceOptions) (order : Order) → at_address recording word address options ≡ Some order → ((o : TraceOptions) → options ≡ Some o → left ≡ Some (alone o))
    → option_map worked_alone (at_address recording word address left) ≡ Some (worked_alone order)
unfolding at_address
address_row recording word None options left order is kept = absurd cc
address_row recording word (Some address) None left order is kept = absurd cc
address_row recording word (Some address) (Some o) left order is kept =
    ap (λ (l : Option TraceOptions). option_map worked_alone (at_address recording word (Some address) l)) (kept o refl) ∙ address_named recording address o order (bytes_eq word (codes "at")) is

by_words : Option (List ℕ × List ℕ × List ℕ) → Option TraceOptions → Option Order
by_words words options = words >>= λ (words : List ℕ × List ℕ × List ℕ). at_address words.0 words.1 (hex_value words.2) options

words_row : (words : Option (List ℕ × List ℕ × List ℕ)) (options left : Option TraceOptions) (order : Order) → by_words words options ≡ Some order → ((o : TraceOptions) → options ≡ Some o → left ≡ Some (alone o))
    → option_map worked_alone (by_words words left) ≡ Some (worked_alone order)
unfolding by_words
words_row None options left order is kept = absurd cc
words_row (Some words) options left order is kept = address_row words.0 words.1 (hex_value words.2) options left order is kept

trace_of : List (List ℕ) → List Setting → Option Order
trace_of plain settings = if length plain == 2 then trace plain settings else trace_at plain settings

trace_row : (plain : List (List ℕ)) (settings : List Setting) (order : Order) (is_two : Bool) → (if is_two then trace plain settings else trace_at plain settings) ≡ Some order
    → option_map worked_alone (if is_two then trace plain (without_work settings) else trace_at plain (without_work settings)) ≡ Some (worked_alone order)
unfolding by_script by_words at_address
trace_row plain settings order true is = script_row (two plain) (trace_options settings) (trace_options (without_work settings)) order is (options_left settings)
trace_row plain settings order false is = words_row (three plain) (trace_options settings) (trace_options (without_work settings)) order is (options_left settings)

-- ---- all rows

as_trace : (command : List ℕ) (plain : List (List ℕ)) (settings : List Setting) → bytes_eq command (codes "trace") ≡ true → row_of command plain settings ≡ trace_of plain settings
unfolding trace_of
as_trace command plain settings is = rw is refl

other_takes : (is_record is_recut is_show : Bool) (settings : List Setting)
    → (if is_record then are_among (codes "--flat" ∷ codes "--limit" ∷ codes "--every" ∷ codes "--arg" ∷ []) settings
    else if is_recut then are_among (codes "--every" ∷ []) settings
    else if is_show then are_among (codes "--flat" ∷ []) settings
    else are_among [] settings) ≡ true
    → without_work settings ≡ settings
other_takes true is_recut is_show settings all = all_left (codes "--flat" ∷ codes "--limit" ∷ codes "--every" ∷ codes "--arg" ∷ []) settings refl all
other_takes false true is_show settings all = all_left (codes "--every" ∷ []) settings refl all
other_takes false false true settings all = all_left (codes "--flat" ∷ []) settings refl all
other_takes false false false settings all = all_left [] settings refl all

takes_rest : List ℕ → List Setting → Bool
takes_rest command settings =
    if bytes_eq command (codes "record") then are_among (codes "--flat" ∷ codes "--limit" ∷ codes "--every" ∷ codes "--arg" ∷ []) settings
    else if bytes_eq command (codes "recut") then are_among (codes "--every" ∷ []) settings
    else if bytes_eq command (codes "show") then are_among (codes "--flat" ∷ []) settings
    else are_among [] settings

as_other : (command : List ℕ) (settings : List Setting) → bytes_eq command (codes "trace") ≡ false → takes command settings ≡ takes_rest command settings
unfolding takes_rest
as_other command settings is = rw is refl

row_left : (command : List ℕ) (plain : List (List ℕ)) (settings : List Setting) (order : Order) (is_trace : Bool) → bytes_eq command (codes "trace") ≡ is_trace → takes command settings ≡ true → row_of command plain settings ≡ Some order
    → option_map worked_alone (row_of command plain (without_work settings)) ≡ Some (worked_alone order)
unfolding trace_of takes_rest
row_left command plain settings order true is taken named =
    ap (option_map worked_alone) (as_trace command plain (without_work settings) is)
    ∙ trace_row plain settings order (length plain == 2) (sym (as_trace command plain settings is) ∙ named)
row_left command plain settings order false is taken named =
    let all = other_takes (bytes_eq command (codes "record")) (bytes_eq command (codes "recut")) (bytes_eq command (codes "show")) settings (sym (as_other command settings is) ∙ taken) in
    ap (λ (left : List Setting). option_map worked_alone (row_of command plain left)) all ∙ ap (option_map worked_alone) named

where_taken : (taken : Bool) (row : Option Order) (order : Order) → (if taken then row else None) ≡ Some order → (taken ≡ true) × (row ≡ Some order)
where_taken true row order is = (refl, is)
where_taken false row order is = absurd cc

-- the command that words name is, without the options of work, the one that all else names
order_left : (command : List ℕ) (parts : Parts) (named : Option Order) → order_from command parts ≡ named → IsSome named → option_map worked_alone (row_of command parts.plain (without_work parts.settings)) ≡ option_map worked_alone named
order_left command parts None is some = absurd cc
order_left command parts (Some order) is some =
    let h = where_taken (takes command parts.settings) (row_of command parts.plain parts.settings) order is in
    row_left command parts.plain parts.settings order (bytes_eq command (codes "trace")) refl h.0 h.1

abbrev Rest : Type 0
Rest = List ℕ × List (List ℕ) × List Setting

rest_of : List ℕ → Parts → Rest
rest_of command parts = (command, parts.plain, without_work parts.settings)

parts_left : (first second : List ℕ) (p q : Option Parts) → IsSome (option_and_then (order_from first) p) → IsSome (option_and_then (order_from second) q) → option_map (rest_of first) p ≡ option_map (rest_of second) q
    → option_map worked_alone (option_and_then (order_from first) p) ≡ option_map worked_alone (option_and_then (order_from second) q)
unfolding rest_of
parts_left first second None q a b same = absurd cc
parts_left first second (Some p) None a b same = absurd cc
parts_left first second (Some p) (Some q) a b same =
    let rest : rest_of first p ≡ rest_of second q = cc in
    sym (order_left first p (order_from first p) refl a)
    ∙ ap (λ (r : Rest). option_map worked_alone (row_of r.0 r.1 r.2)) rest
    ∙ order_left second q (order_from second q) refl b

pub same_but_for_work : (first second : List (List ℕ)) → DifferInWork first second → option_map worked_alone (order_of first) ≡ option_map worked_alone (order_of second)
unfolding rest_of
same_but_for_work [] second is = let named = is.first_named in absurd cc
same_but_for_work (command ∷ words) [] is = let named = is.second_named in absurd cc
same_but_for_work (command ∷ words) (other ∷ others) is = parts_left command other (parts_of words) (parts_of others) is.first_named is.second_named is.same
