use Rattle.std.specs.Prelude.{is_some, unwrap_or}
use Rattle.std.specs.Option.{option_map}
use Rattle.std.proofs.Common.{◌≡◌, ℕ, ◌<◌, ◌≤◌, ◌^◌, ap, ◌∙◌, sym, arith}
use Rattle.sl_model.specs.declared.bank.TheConstants.{CODE_START}
use Rattle.sl_model.specs.Pages.{IsWidth, store_at}
use Rattle.sl_model.proofs.Memory.{AreWhole-pages}
use Rattle.page_frames.specs.MarkedPages.{MarkedPages, IsKept}
use Rattle.undo_bank.specs.Areas.{Areas, AreAreas, areas_over, store_to}
use Rattle.undo_bank.proofs.AreasLaws.{store-above, store-below}
use Rattle.undo_bank.proofs.Buses.{width_some, width_few, is_some-map, unwrap_or-map, MarksGoOn-areas, MarksGoOn-program}
use Rattle.undo_bank.proofs.bank_bus.BankBusBus.store.Goals as goal

-- a store below the areas, and one above the program's memory
below : (a : Areas) (m : MarkedPages) (address width value : ℕ) → AreAreas a → IsKept m → IsWidth width → address < CODE_START
    → store_at (areas_over a m.pages) address width value ≡ option_map (areas_over a) (store_at m.pages address width value)
below a m address width value are kept is before = store-below a m.pages address width value are kept.below (width_some width is) (width_few width is) before

above : (a : Areas) (m : MarkedPages) (address width value : ℕ) → AreAreas a → IsKept m → IsWidth width → CODE_START ≤ address → address < 2 ^ 32
    → store_at (areas_over a m.pages) address width value ≡ option_map (λ (b : Areas). areas_over b m.pages) (store_to a address width value)
above a m address width value are kept is from to = store-above a m.pages address width value are kept.below (AreWhole-pages m.pages kept.whole) (width_some width is) from to

pub returns-then-addr-lt-CODE_START-clause-mapped : goal.returns-then-addr-lt-CODE_START-clause-mapped
returns-then-addr-lt-CODE_START-clause-mapped c =
    let a : Areas = c.args.self.now.bank.now in
    let m : MarkedPages = c.args.self.now.frames.now in
    c.store.ensures.mapped
    ∙ sym (ap is_some (below a m c.args.addr c.args.width c.args.value c.known.ensures.areas c.known.ensures.pages c.requires (omega arith))
    ∙ is_some-map (areas_over a) (store_at m.pages c.args.addr c.args.width c.args.value))

pub returns-then-addr-lt-CODE_START-clause-bytes : goal.returns-then-addr-lt-CODE_START-clause-bytes
returns-then-addr-lt-CODE_START-clause-bytes c =
    let a : Areas = c.args.self.now.bank.now in
    let m : MarkedPages = c.args.self.now.frames.now in
    ap (areas_over a) c.store.ensures.bytes
    ∙ sym (ap (λ o. unwrap_or o (areas_over a m.pages)) (below a m c.args.addr c.args.width c.args.value c.known.ensures.areas c.known.ensures.pages c.requires (omega arith))
    ∙ unwrap_or-map (areas_over a) (store_at m.pages c.args.addr c.args.width c.args.value) m.pages)

pub returns-then-addr-lt-CODE_START-clause-marks : goal.returns-then-addr-lt-CODE_START-clause-marks
returns-then-addr-lt-CODE_START-clause-marks c =
    MarksGoOn-program c.args.self.now.bank.now c.args.self.now.frames.now.pages c.store.new.self.pages c.args.self.now.frames.now.dirty c.store.new.self.dirty c.store.ensures.marks

pub returns-else-addr-lt-CODE_START-clause-mapped : goal.returns-else-addr-lt-CODE_START-clause-mapped
returns-else-addr-lt-CODE_START-clause-mapped c =
    let a : Areas = c.args.self.now.bank.now in
    let m : MarkedPages = c.args.self.now.frames.now in
    c.store-else-addr-lt-CODE_START.ensures.done
    ∙ sym (ap is_some (above a m c.args.addr c.args.width c.args.value c.known.ensures.areas c.known.ensures.pages c.requires (omega arith) (omega arith))
    ∙ is_some-map (λ (b : Areas). areas_over b m.pages) (store_to a c.args.addr c.args.width c.args.value))

pub returns-else-addr-lt-CODE_START-clause-bytes : goal.returns-else-addr-lt-CODE_START-clause-bytes
returns-else-addr-lt-CODE_START-clause-bytes c =
    let a : Areas = c.args.self.now.bank.now in
    let m : MarkedPages = c.args.self.now.frames.now in
    ap (λ (b : Areas). areas_over b m.pages) c.store-else-addr-lt-CODE_START.ensures.areas
    ∙ sym (ap (λ o. unwrap_or o (areas_over a m.pages)) (above a m c.args.addr c.args.width c.args.value c.known.ensures.areas c.known.ensures.pages c.requires (omega arith) (omega arith))
    ∙ unwrap_or-map (λ (b : Areas). areas_over b m.pages) (store_to a c.args.addr c.args.width c.args.value) a)

pub returns-else-addr-lt-CODE_START-clause-marks : goal.returns-else-addr-lt-CODE_START-clause-marks
returns-else-addr-lt-CODE_START-clause-marks c =
    MarksGoOn-areas c.args.self.now.bank.now c.store-else-addr-lt-CODE_START.new.self c.args.self.now.frames.now.pages c.args.self.now.frames.now.dirty
