-- What the checkpoints of a small recording record, worked by hand: a program with page 16, whose heap may have the
-- pages 18 and 19.
use Rattle.std.proofs.Common.{◌≡◌, ℕ, List, [], ◌∷◌, Some, None, refl}
use Rattle.std.specs.Cmp.{nat_cmp_total}
use Rattle.std.specs.Ordering.{nat_cmp}
use Rattle.std.specs.FinMap.{get, insert, empty, get-insert, get-empty}
use Rattle.sl_model.specs.declared.run_state.RunState.TheVariants.{Running}
use Rattle.sl_model.specs.State.{State}
use Rattle.call_log.specs.declared.entry.End.TheVariants as end
use Rattle.rec_format.specs.declared.recording.Recording.{Recording}
use Rattle.rec_format.specs.declared.recording.CheckpointData.{CheckpointData}
use Rattle.rec_format.specs.declared.recording.ListedPage.{ListedPage}
use Rattle.sl_model.specs.Mapping.{zero_page, map_pages}
use Rattle.rec_format.specs.Recorded.{recorded_page, recorded_end, recorded_state, recorded_state_of, recorded_count, put_all_listed}

abbrev opened : State
opened = record { pc = 0x10000; x = 0 ∷ 7 ∷ []; pages = insert empty 16 (1 ∷ []); brk = 0x12000; brk_end = 0x12000; next_call = 0; status = Running; count = 0; layout = record { brk_start = 0x12000; heap_limit = 0x14000 } }

abbrev page : ℕ → ℕ → ListedPage
page number byte = record { number = number; bytes = byte ∷ [] }

abbrev checkpoint : ℕ → ℕ → List ListedPage → CheckpointData
checkpoint count brk_end pages = record { count = count; pc = 0x10004; x = 5 ∷ []; brk = 0x12001; brk_end = brk_end; next_call = 3; pages = pages }

abbrev recording : Recording
recording =
    record {
      kind = 0;
      load_addr = 0x10000;
      image = [];
      args = [];
      calls = [];
      checkpoints = checkpoint 4 0x12000 [] ∷ checkpoint 6 0x13fff (page 17 2 ∷ page 18 6 ∷ []) ∷ checkpoint 7 0x13000 (page 16 9 ∷ []) ∷ [];
      end = end.Exited 5;
      last = checkpoint 9 0x14000 (page 17 4 ∷ []);
    }

-- ---- mapped ends: one that a run may have, and ones that none has

end_in_heap : recorded_end opened 0x13000 ≡ 0x13000
end_in_heap = refl

end_no_multiple : recorded_end opened 0x13fff ≡ 0x13000
end_no_multiple = refl

end_below_heap : recorded_end opened 0x11fff ≡ 0x12000
end_below_heap = refl

end_above_limit : recorded_end opened 0xffffffff ≡ 0x14000
end_above_limit = refl

-- ---- pages

page_not_listed : recorded_page opened.pages recording 1 17 ≡ zero_page
page_not_listed = simp (get-insert {X = List ℕ} nat_cmp_total, get-empty {X = List ℕ} nat_cmp)

page_opened : recorded_page opened.pages recording 2 16 ≡ 1 ∷ []
page_opened = simp (get-insert {X = List ℕ} nat_cmp_total)

page_listed : recorded_page opened.pages recording 2 17 ≡ 2 ∷ []
page_listed = refl

page_still_listed : recorded_page opened.pages recording 3 17 ≡ 2 ∷ []
page_still_listed = refl

page_listed_again : recorded_page opened.pages recording 4 17 ≡ 4 ∷ []
page_listed_again = refl

-- ---- a state

counts : recorded_count recording 0 ∷ recorded_count recording 2 ∷ recorded_count recording 4 ∷ recorded_count recording 9 ∷ [] ≡ 0 ∷ 6 ∷ 9 ∷ 9 ∷ []
counts = refl

state_end : (recorded_state recording opened 2).brk_end ≡ 0x13000
unfolding recorded_state_of
state_end = refl

state_registers : (recorded_state recording opened 2).x ≡ 0 ∷ 5 ∷ []
unfolding recorded_state_of
state_registers = refl

-- page 18 is mapped below the mapped end, and listed
state_heap : get (recorded_state recording opened 2).pages 18 ≡ Some (6 ∷ [])
unfolding recorded_state_of put_all_listed map_pages
state_heap = simp (get-insert {X = List ℕ} nat_cmp_total, get-empty {X = List ℕ} nat_cmp)

-- page 17 is listed and not mapped
state_missing : get (recorded_state recording opened 2).pages 17 ≡ None
unfolding recorded_state_of put_all_listed map_pages
state_missing = simp (get-insert {X = List ℕ} nat_cmp_total, get-empty {X = List ℕ} nat_cmp)

-- page 19 is mapped by the end alone, and has zeros
state_zeros : get (recorded_state recording opened 4).pages 19 ≡ Some zero_page
unfolding recorded_state_of put_all_listed map_pages
state_zeros = simp (get-insert {X = List ℕ} nat_cmp_total, get-empty {X = List ℕ} nat_cmp)
