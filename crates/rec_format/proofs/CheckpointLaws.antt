-- The laws of listed pages and of checkpoints.
use Rattle.std.proofs.Common.{◌≡◌, ◌≢◌, ℕ, ◌<◌, ◌≤◌, Bool, true, false, cond, eqb, ltb, List, [], ◌∷◌, ◌++◌, length, map, Option, Some, None, Result, Ok, Err, refl, sym, ap, subst, ◌∙◌, append_assoc, arith}
use Rattle.std.specs.List.{flat_map, AllByRecursion}
use Rattle.std.proofs.lemmas.Bool.{ltb-false, le-ltb, eqb-false, ne_eqb, false_from_ne_true}
use Rattle.std.proofs.lemmas.Slice.Eq.{bytes_eq-Decides}
use Rattle.rec_format.specs.declared.fault.RecCause.{RecCause}
use Rattle.rec_format.specs.declared.fault.RecCause.TheVariants.{Order, Range, PageRepeated, UnneededPage}
use Rattle.rec_format.specs.declared.fault.RecFault.{RecFault}
use Rattle.rec_format.specs.declared.limits.TheConstants.{MOST_CHECKPOINTS, MOST_COUNT, MOST_PAGES, HIGHEST_PAGE, PAGE_BYTES}
use Rattle.rec_format.specs.declared.recording.ListedPage.{ListedPage}
use Rattle.rec_format.specs.declared.recording.CheckpointData.{CheckpointData}
use Rattle.rec_format.specs.Place.{Rest}
use Rattle.rec_format.specs.Rules.{IsAbove, Rise, last_or, number_of, count_of, IsListedPage, IsCheckpoint, last_listed, AreNeeded, listings}
use Rattle.rec_format.specs.Spelling.{word, double_word, counted, listed_page, checkpoint}
use Rattle.rec_format.specs.Reading.{fault, refuse, run_at, word_at, double_word_at, word_up_to, words_at, risen, page_number_at, is_listed, page_at, pages_at, count_at, checkpoint_at, checkpoints_at}
use Rattle.rec_format.proofs.CallLaws.{words_take, words_again}
use Rattle.rec_format.proofs.Fields.{IsBytes, Takes, Takes-then, Again, step, from, ok_is, refuse_ok, run_takes, run_again, word_takes, word_again, double_word_takes, double_word_again, word_up_to_takes, word_up_to_again}
use Rattle.rec_format.proofs.Fronts.{All-front, All-back, All-join, Rise-front, Rise-back, Rise-join, AreNeeded-front, AreNeeded-back, AreNeeded-join}
use Rattle.rec_format.proofs.ItemLaws.{ItemTakes, ItemAgain, items_take, items_again}
use Rattle.rec_format.proofs.Sums.{listings-push, listings-append}

-- ---- rising numbers

not_below : {A : Type 0} (b : Bool) (d : RecFault) (read : Result A RecFault) (y : A) → cond b (Err d) read ≡ Ok y → (b ≡ false) × (read ≡ Ok y)
not_below true d read y e = absurd cc
not_below false d read y e = (refl, e)

risen_takes : (before : Option ℕ) (same : RecCause) (at : Rest) (n x : ℕ × Rest) → risen before same at n ≡ Ok x → (n ≡ x) × IsAbove before x.0
risen_takes None same at n x e = (ok_is n x e, tt)
risen_takes (Some before) same at n x e =
    let a = not_below (ltb n.0 before) (fault at Order) (refuse (eqb n.0 before) at same n) x e in
    let b = refuse_ok (eqb n.0 before) at same n x a.1 in
    let least : before ≤ n.0 = ltb-false _ _ a.0 in
    let apart : n.0 ≢ before = eqb-false _ _ b.0 in
    (b.1, subst (λ (y : ℕ × Rest). before < y.0) b.1 (omega arith))

risen_again : (before : Option ℕ) (same : RecCause) (at : Rest) (n : ℕ × Rest) → IsAbove before n.0 → risen before same at n ≡ Ok n
risen_again None same at n above = refl
risen_again (Some before) same at n above =
    let a : ltb n.0 before ≡ false = le-ltb _ _ (omega arith) in
    let b : eqb n.0 before ≡ false = ne_eqb _ _ (λ same. omega arith) in
    rw (a, b) refl

-- ---- pages

page_number_takes : (before : Option ℕ) (at : Rest) (x : ℕ × Rest) → IsBytes at.bytes → page_number_at before at ≡ Ok x → Takes at (word x.0) x.1 × (x.0 ≤ HIGHEST_PAGE) × IsAbove before x.0
unfolding page_number_at
page_number_takes before at x fits e =
    step (word_up_to HIGHEST_PAGE at) _ x e (λ n n_is rest.
    let t = word_up_to_takes HIGHEST_PAGE at n fits n_is in
    let r = risen_takes before PageRepeated at n x rest in
    let known = subst (λ (y : ℕ × Rest). Takes at (word y.0) y.1 × (y.0 ≤ HIGHEST_PAGE)) r.0 t in
    (known.0, known.1, r.1))

page_number_again : (before : Option ℕ) (at : Rest) (n : ℕ) (rest : List ℕ) → n ≤ HIGHEST_PAGE → IsAbove before n → at.bytes ≡ word n ++ rest → Again (page_number_at before at) n rest
unfolding page_number_at
page_number_again before at n rest le above e =
    from (word_up_to_again HIGHEST_PAGE at n rest le (omega arith) e) (λ next reads stands.
    record { next = next; reads = rw (reads, risen_again before PageRepeated at (n, next) above) refl; stands = stands })

other_bytes : (o : Option (List ℕ)) (bytes : List ℕ) → is_listed o bytes ≡ false → o ≢ Some bytes
other_bytes None bytes h same = absurd cc
other_bytes (Some listed) bytes h same = let e : listed ≡ bytes = cc in let yes = (bytes_eq-Decides listed bytes).1 e in absurd cc

not_listed : (o : Option (List ℕ)) (bytes : List ℕ) → o ≢ Some bytes → is_listed o bytes ≡ false
not_listed None bytes other = refl
not_listed (Some listed) bytes other = false_from_ne_true _ (λ h. other (ap Some ((bytes_eq-Decides listed bytes).0 h)))

-- a page that may be listed next
record IsNextPage (before : Option ℕ) (earlier : List ListedPage) (page : ListedPage) : Type 0 where
  is_page : IsListedPage page
  above : IsAbove before page.number
  needed : last_listed page.number earlier ≢ Some page.bytes

page_takes : (before : Option ℕ) (earlier : List ListedPage) (at : Rest) (x : ListedPage × Rest) → IsBytes at.bytes → page_at before earlier at ≡ Ok x → Takes at (listed_page x.0) x.1 × IsNextPage before earlier x.0
unfolding page_at listed_page
page_takes before earlier at x fits e =
    step (page_number_at before at) _ x e (λ n n_is rest0.
    step (run_at PAGE_BYTES n.1) _ x rest0 (λ bytes bytes_is rest1.
    let page : ListedPage = record { number = n.0; bytes = bytes.0 } in
    let g = refuse_ok (is_listed (last_listed n.0 earlier) bytes.0) at UnneededPage (page, bytes.1) x rest1 in
    let t = page_number_takes before at n fits n_is in
    let r = run_takes n.1 PAGE_BYTES bytes t.0.rest_fits bytes_is in
    let next : IsNextPage before earlier page = record {
      is_page = record { number = t.1; bytes = r.len_is };
      above = t.2;
      needed = other_bytes (last_listed n.0 earlier) bytes.0 g.0;
    } in
    subst (λ (y : ListedPage × Rest). Takes at (word y.0.number ++ y.0.bytes) y.1 × IsNextPage before earlier y.0) g.1 (Takes-then at (word n.0) n.1 bytes.0 bytes.1 t.0 r.takes, next)))

page_again : (before : Option ℕ) (earlier : List ListedPage) (at : Rest) (page : ListedPage) (rest : List ℕ) → IsNextPage before earlier page → at.bytes ≡ listed_page page ++ rest → Again (page_at before earlier at) page rest
unfolding page_at listed_page
page_again before earlier at page rest next e =
    from (page_number_again before at page.number (page.bytes ++ rest) next.is_page.number next.above (e ∙ append_assoc (word page.number) page.bytes rest)) (λ next0 reads0 stands0.
    from (run_again next0 PAGE_BYTES page.bytes rest next.is_page.bytes stands0) (λ next1 reads1 stands1.
    record { next = next1; reads = rw (reads0, reads1, not_listed (last_listed page.number earlier) page.bytes next.needed) refl; stands = stands1 }))

-- pages of a checkpoint after these listings
record KeepsPages (earlier pages : List ListedPage) : Type 0 where
  each : AllByRecursion IsListedPage pages
  rising : Rise None (map number_of pages)
  needed : AreNeeded earlier pages

page_items : (earlier : List ListedPage) → ItemTakes (λ before. page_at (last_or None number_of before) (earlier ++ before)) listed_page (KeepsPages earlier)
page_items earlier = record {
  takes = λ before at x fits kept e.
      let t = page_takes (last_or None number_of before) (earlier ++ before) at x fits e in (
        t.0,
        record {
          each = All-join IsListedPage before (x.0 ∷ []) kept.each (t.1.is_page, tt);
          rising = Rise-join None number_of before (x.0 ∷ []) kept.rising (t.1.above, tt);
          needed = AreNeeded-join earlier before (x.0 ∷ []) kept.needed (t.1.needed, tt);
        },
      );
}

page_items_again : (earlier : List ListedPage) → ItemAgain (λ before. page_at (last_or None number_of before) (earlier ++ before)) listed_page (KeepsPages earlier)
page_items_again earlier = record {
  again = λ before page at rest kept e. page_again (last_or None number_of before) (earlier ++ before) at page rest (record {
    is_page = (All-back IsListedPage before (page ∷ []) kept.each).0;
    above = (Rise-back None number_of before (page ∷ []) kept.rising).0;
    needed = (AreNeeded-back earlier before (page ∷ []) kept.needed).0;
  }) e;
  fronts = λ xs ys kept. record {
    each = All-front IsListedPage xs ys kept.each;
    rising = Rise-front None number_of xs ys kept.rising;
    needed = AreNeeded-front earlier xs ys kept.needed;
  };
}

pages_take : (earlier : List ListedPage) (at : Rest) (x : List ListedPage × Rest) → IsBytes at.bytes → pages_at earlier at ≡ Ok x → Takes at (counted listed_page x.0) x.1 × (length x.0 ≤ MOST_PAGES) × KeepsPages earlier x.0
unfolding pages_at counted
pages_take earlier at x fits e =
    step (word_up_to MOST_PAGES at) _ x e (λ n n_is rest.
    let t = word_up_to_takes MOST_PAGES at n fits n_is in
    let i = items_take (λ before. page_at (last_or None number_of before) (earlier ++ before)) listed_page (KeepsPages earlier) (page_items earlier) n.0 n.1 x t.0.rest_fits (record { each = tt; rising = tt; needed = tt }) rest in
    (subst (λ (k : ℕ). Takes at (word k ++ flat_map listed_page x.0) x.1) (sym i.1) (Takes-then at (word n.0) n.1 (flat_map listed_page x.0) x.1 t.0 i.0), omega (arith, t.1, i.1), i.2))

pages_again : (earlier : List ListedPage) (at : Rest) (pages : List ListedPage) (rest : List ℕ) → length pages ≤ MOST_PAGES → KeepsPages earlier pages → at.bytes ≡ counted listed_page pages ++ rest → Again (pages_at earlier at) pages rest
unfolding pages_at counted
pages_again earlier at pages rest number kept e =
    from (word_up_to_again MOST_PAGES at (length pages) (flat_map listed_page pages ++ rest) number (omega arith) (e ∙ append_assoc (word (length pages)) (flat_map listed_page pages) rest)) (λ next0 reads0 stands0.
    from (items_again (λ before. page_at (last_or None number_of before) (earlier ++ before)) listed_page (KeepsPages earlier) (page_items_again earlier) pages [] next0 rest kept stands0) (λ next1 reads1 stands1.
    record { next = next1; reads = rw (reads0, reads1) refl; stands = stands1 }))

-- ---- checkpoints

count_takes : (before : Option ℕ) (at : Rest) (x : ℕ × Rest) → IsBytes at.bytes → count_at before at ≡ Ok x → Takes at (double_word x.0) x.1 × (x.0 ≤ MOST_COUNT) × IsAbove before x.0
unfolding count_at
count_takes before at x fits e =
    step (double_word_at at) _ x e (λ n n_is rest0.
    step (refuse (ltb MOST_COUNT n.0) at Range n) _ x rest0 (λ m m_is rest1.
    let t = double_word_takes at n fits n_is in
    let g = refuse_ok (ltb MOST_COUNT n.0) at Range n m m_is in
    let r = risen_takes before Order at m x rest1 in
    let known = subst (λ (y : ℕ × Rest). Takes at (double_word y.0) y.1 × (y.0 ≤ MOST_COUNT)) (g.1 ∙ r.0) (t, ltb-false _ _ g.0) in
    (known.0, known.1, r.1)))

count_again : (before : Option ℕ) (at : Rest) (n : ℕ) (rest : List ℕ) → n ≤ MOST_COUNT → IsAbove before n → at.bytes ≡ double_word n ++ rest → Again (count_at before at) n rest
unfolding count_at
count_again before at n rest le above e =
    from (double_word_again at n rest (omega arith) e) (λ next reads stands.
    let fits : ltb MOST_COUNT n ≡ false = le-ltb _ _ le in
    record { next = next; reads = rw (reads, fits, risen_again before Order at (n, next) above) refl; stands = stands })

-- a checkpoint that may be next
pub record IsNextCheckpoint (before : Option ℕ) (earlier : List ListedPage) (c : CheckpointData) : Type 0 where
  pub is_checkpoint : IsCheckpoint c
  pub above : IsAbove before c.count
  pub needed : AreNeeded earlier c.pages

pub checkpoint_takes : (before : Option ℕ) (earlier : List ListedPage) (at : Rest) (x : CheckpointData × Rest) → IsBytes at.bytes → checkpoint_at before earlier at ≡ Ok x → Takes at (checkpoint x.0) x.1 × IsNextCheckpoint before earlier x.0
unfolding checkpoint_at checkpoint
checkpoint_takes before earlier at x fits e =
    step (count_at before at) _ x e (λ count count_is rest0.
    step (word_at count.1) _ x rest0 (λ pc pc_is rest1.
    step (words_at 31 pc.1) _ x rest1 (λ registers registers_is rest2.
    step (word_at registers.1) _ x rest2 (λ brk brk_is rest3.
    step (word_at brk.1) _ x rest3 (λ brk_end brk_end_is rest4.
    step (word_at brk_end.1) _ x rest4 (λ next_call next_call_is rest5.
    step (pages_at earlier next_call.1) _ x rest5 (λ pages pages_is rest6.
    let t0 = count_takes before at count fits count_is in
    let t1 = word_takes count.1 pc t0.0.rest_fits pc_is in
    let t2 = words_take 31 pc.1 registers t1.0.rest_fits registers_is in
    let t3 = word_takes registers.1 brk t2.0.rest_fits brk_is in
    let t4 = word_takes brk.1 brk_end t3.0.rest_fits brk_end_is in
    let t5 = word_takes brk_end.1 next_call t4.0.rest_fits next_call_is in
    let t6 = pages_take earlier next_call.1 pages t5.0.rest_fits pages_is in
    let j1 = Takes-then at _ count.1 _ pc.1 t0.0 t1.0 in
    let j2 = Takes-then at _ pc.1 _ registers.1 j1 t2.0 in
    let j3 = Takes-then at _ registers.1 _ brk.1 j2 t3.0 in
    let j4 = Takes-then at _ brk.1 _ brk_end.1 j3 t4.0 in
    let j5 = Takes-then at _ brk_end.1 _ next_call.1 j4 t5.0 in
    let j6 = Takes-then at _ next_call.1 _ pages.1 j5 t6.0 in
    let value : CheckpointData = record { count = count.0; pc = pc.0; x = registers.0; brk = brk.0; brk_end = brk_end.0; next_call = next_call.0; pages = pages.0 } in
    let next : IsNextCheckpoint before earlier value = record {
      is_checkpoint = record { count = t0.1; pc = t1.1; x = t2.1; brk = t3.1; brk_end = t4.1; next_call = t5.1; number_of_pages = t6.1; each_page = t6.2.each; pages_rise = t6.2.rising };
      above = t0.2;
      needed = t6.2.needed;
    } in
    subst (λ (y : CheckpointData × Rest). Takes at (checkpoint y.0) y.1 × IsNextCheckpoint before earlier y.0) (ok_is (value, pages.1) x rest6) (j6, next))))))))

pub checkpoint_again : (before : Option ℕ) (earlier : List ListedPage) (at : Rest) (c : CheckpointData) (rest : List ℕ) → IsNextCheckpoint before earlier c → at.bytes ≡ checkpoint c ++ rest → Again (checkpoint_at before earlier at) c rest
unfolding checkpoint_at checkpoint
checkpoint_again before earlier at c rest next e =
    let fits = next.is_checkpoint in
    let pages = counted listed_page c.pages in
    let regrouped : checkpoint c ++ rest ≡ double_word c.count ++ (word c.pc ++ (flat_map word c.x ++ (word c.brk ++ (word c.brk_end ++ (word c.next_call ++ (pages ++ rest)))))) = simp append_assoc in
    from (count_again before at c.count _ fits.count next.above (e ∙ regrouped)) (λ next0 reads0 stands0.
    from (word_again next0 c.pc _ fits.pc stands0) (λ next1 reads1 stands1.
    from (words_again 31 next1 c.x _ fits.x stands1) (λ next2 reads2 stands2.
    from (word_again next2 c.brk _ fits.brk stands2) (λ next3 reads3 stands3.
    from (word_again next3 c.brk_end _ fits.brk_end stands3) (λ next4 reads4 stands4.
    from (word_again next4 c.next_call _ fits.next_call stands4) (λ next5 reads5 stands5.
    from (pages_again earlier next5 c.pages rest fits.number_of_pages (record { each = fits.each_page; rising = fits.pages_rise; needed = next.needed }) stands5) (λ next6 reads6 stands6.
    record { next = next6; reads = rw (reads0, reads1, reads2, reads3, reads4, reads5, reads6) refl; stands = stands6 })))))))

-- checkpoints from the start of the list
pub record KeepsCheckpoints (checkpoints : List CheckpointData) : Type 0 where
  pub each : AllByRecursion IsCheckpoint checkpoints
  pub rising : Rise (Some 0) (map count_of checkpoints)
  pub needed : AreNeeded [] (listings checkpoints)

checkpoint_items : ItemTakes (λ before. checkpoint_at (last_or (Some 0) count_of before) (listings before)) checkpoint KeepsCheckpoints
checkpoint_items = record {
  takes = λ before at x fits kept e.
      let t = checkpoint_takes (last_or (Some 0) count_of before) (listings before) at x fits e in (
        t.0,
        record {
          each = All-join IsCheckpoint before (x.0 ∷ []) kept.each (t.1.is_checkpoint, tt);
          rising = Rise-join (Some 0) count_of before (x.0 ∷ []) kept.rising (t.1.above, tt);
          needed = subst (AreNeeded []) (sym (listings-push before x.0)) (AreNeeded-join [] (listings before) x.0.pages kept.needed t.1.needed);
        },
      );
}

checkpoint_items_again : ItemAgain (λ before. checkpoint_at (last_or (Some 0) count_of before) (listings before)) checkpoint KeepsCheckpoints
checkpoint_items_again = record {
  again = λ before c at rest kept e. checkpoint_again (last_or (Some 0) count_of before) (listings before) at c rest (record {
    is_checkpoint = (All-back IsCheckpoint before (c ∷ []) kept.each).0;
    above = (Rise-back (Some 0) count_of before (c ∷ []) kept.rising).0;
    needed = AreNeeded-back [] (listings before) c.pages (subst (AreNeeded []) (listings-push before c) kept.needed);
  }) e;
  fronts = λ xs ys kept. record {
    each = All-front IsCheckpoint xs ys kept.each;
    rising = Rise-front (Some 0) count_of xs ys kept.rising;
    needed = AreNeeded-front [] (listings xs) (listings ys) (subst (AreNeeded []) (listings-append xs ys) kept.needed);
  };
}

pub checkpoints_take : (at : Rest) (x : List CheckpointData × Rest) → IsBytes at.bytes → checkpoints_at at ≡ Ok x → Takes at (counted checkpoint x.0) x.1 × (length x.0 ≤ MOST_CHECKPOINTS) × KeepsCheckpoints x.0
unfolding checkpoints_at counted
checkpoints_take at x fits e =
    step (word_up_to MOST_CHECKPOINTS at) _ x e (λ n n_is rest.
    let t = word_up_to_takes MOST_CHECKPOINTS at n fits n_is in
    let i = items_take (λ before. checkpoint_at (last_or (Some 0) count_of before) (listings before)) checkpoint KeepsCheckpoints checkpoint_items n.0 n.1 x t.0.rest_fits (record { each = tt; rising = tt; needed = tt }) rest in
    (subst (λ (k : ℕ). Takes at (word k ++ flat_map checkpoint x.0) x.1) (sym i.1) (Takes-then at (word n.0) n.1 (flat_map checkpoint x.0) x.1 t.0 i.0), omega (arith, t.1, i.1), i.2))

pub checkpoints_again : (at : Rest) (checkpoints : List CheckpointData) (rest : List ℕ) → length checkpoints ≤ MOST_CHECKPOINTS → KeepsCheckpoints checkpoints → at.bytes ≡ counted checkpoint checkpoints ++ rest → Again (checkpoints_at at) checkpoints rest
unfolding checkpoints_at counted
checkpoints_again at checkpoints rest number kept e =
    from (word_up_to_again MOST_CHECKPOINTS at (length checkpoints) (flat_map checkpoint checkpoints ++ rest) number (omega arith) (e ∙ append_assoc (word (length checkpoints)) (flat_map checkpoint checkpoints) rest)) (λ next0 reads0 stands0.
    from (items_again (λ before. checkpoint_at (last_or (Some 0) count_of before) (listings before)) checkpoint KeepsCheckpoints checkpoint_items_again checkpoints [] next0 rest kept stands0) (λ next1 reads1 stands1.
    record { next = next1; reads = rw (reads0, reads1) refl; stands = stands1 }))
