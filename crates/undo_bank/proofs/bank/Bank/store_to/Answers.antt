use Rattle.std.proofs.Common.{◌%◌, length, ap, ◌∙◌, sym, arith}
use Rattle.std.specs.Prelude.{is_some, unwrap_or}
use Rattle.undo_bank.specs.Areas.{Areas, store_to}
use Rattle.undo_bank.specs.Fields.{areas_of}
use Rattle.undo_bank.proofs.Buses.{IsDense-stored, length-store_in, AreAreas-code, AreAreas-frames, AreAreas-log, AreAreas-output, stores-code, stores-frames, stores-log, stores-output, no_store}
use Rattle.undo_bank.proofs.bank.Bank.store_to.Goals as goal

pub invariant_of-self : goal.invariant_of-self
invariant_of-self c =
    AreAreas-code (areas_of c.self.inside) c.store.new.self c.self.invariant
    (rw c.store.ensures.bytes (IsDense-stored c.self.inside.code (c.args.addr % 268435456) c.args.width c.args.value c.self.invariant.code))
    (ap length c.store.ensures.bytes ∙ length-store_in c.self.inside.code (c.args.addr % 268435456) c.args.width c.args.value)

pub returns-in-12-clause-fixed : goal.returns-in-12-clause-fixed
returns-in-12-clause-fixed c =
    ap length c.store.ensures.bytes ∙ length-store_in c.self.inside.code (c.args.addr % 268435456) c.args.width c.args.value
    ∙ ap (λ (a : Areas). length a.code) c.self.view_is

pub returns-in-12-clause-done : goal.returns-in-12-clause-done
returns-in-12-clause-done c =
    (stores-code (areas_of c.self.inside) c.args.addr c.args.width c.args.value c.store.new.self c.store.result (omega arith) c.store.ensures.done c.store.ensures.bytes).done
    ∙ ap (λ (a : Areas). is_some (store_to a c.args.addr c.args.width c.args.value)) c.self.view_is

pub returns-in-12-clause-areas : goal.returns-in-12-clause-areas
returns-in-12-clause-areas c =
    (stores-code (areas_of c.self.inside) c.args.addr c.args.width c.args.value c.store.new.self c.store.result (omega arith) c.store.ensures.done c.store.ensures.bytes).areas
    ∙ ap (λ (a : Areas). unwrap_or (store_to a c.args.addr c.args.width c.args.value) a) c.self.view_is

pub invariant_of-self-in-13 : goal.invariant_of-self-in-13
invariant_of-self-in-13 c =
    AreAreas-frames (areas_of c.self.inside) c.store-in-13.new.self c.self.invariant
    (rw c.store-in-13.ensures.bytes (IsDense-stored c.self.inside.frames (c.args.addr % 268435456) c.args.width c.args.value c.self.invariant.frames))
    (ap length c.store-in-13.ensures.bytes ∙ length-store_in c.self.inside.frames (c.args.addr % 268435456) c.args.width c.args.value)

pub returns-in-13-clause-done : goal.returns-in-13-clause-done
returns-in-13-clause-done c =
    (stores-frames (areas_of c.self.inside) c.args.addr c.args.width c.args.value c.store-in-13.new.self c.store-in-13.result (omega arith) c.store-in-13.ensures.done c.store-in-13.ensures.bytes).done
    ∙ ap (λ (a : Areas). is_some (store_to a c.args.addr c.args.width c.args.value)) c.self.view_is

pub returns-in-13-clause-areas : goal.returns-in-13-clause-areas
returns-in-13-clause-areas c =
    (stores-frames (areas_of c.self.inside) c.args.addr c.args.width c.args.value c.store-in-13.new.self c.store-in-13.result (omega arith) c.store-in-13.ensures.done c.store-in-13.ensures.bytes).areas
    ∙ ap (λ (a : Areas). unwrap_or (store_to a c.args.addr c.args.width c.args.value) a) c.self.view_is

pub invariant_of-self-in-14 : goal.invariant_of-self-in-14
invariant_of-self-in-14 c =
    AreAreas-log (areas_of c.self.inside) c.store-in-14.new.self c.self.invariant
    (rw c.store-in-14.ensures.bytes (IsDense-stored c.self.inside.log (c.args.addr % 268435456) c.args.width c.args.value c.self.invariant.log))
    (ap length c.store-in-14.ensures.bytes ∙ length-store_in c.self.inside.log (c.args.addr % 268435456) c.args.width c.args.value)

pub returns-in-14-clause-done : goal.returns-in-14-clause-done
returns-in-14-clause-done c =
    (stores-log (areas_of c.self.inside) c.args.addr c.args.width c.args.value c.store-in-14.new.self c.store-in-14.result (omega arith) c.store-in-14.ensures.done c.store-in-14.ensures.bytes).done
    ∙ ap (λ (a : Areas). is_some (store_to a c.args.addr c.args.width c.args.value)) c.self.view_is

pub returns-in-14-clause-areas : goal.returns-in-14-clause-areas
returns-in-14-clause-areas c =
    (stores-log (areas_of c.self.inside) c.args.addr c.args.width c.args.value c.store-in-14.new.self c.store-in-14.result (omega arith) c.store-in-14.ensures.done c.store-in-14.ensures.bytes).areas
    ∙ ap (λ (a : Areas). unwrap_or (store_to a c.args.addr c.args.width c.args.value) a) c.self.view_is

pub invariant_of-self-in-15 : goal.invariant_of-self-in-15
invariant_of-self-in-15 c =
    AreAreas-output (areas_of c.self.inside) c.store-in-15.new.self c.self.invariant
    (rw c.store-in-15.ensures.bytes (IsDense-stored c.self.inside.output (c.args.addr % 268435456) c.args.width c.args.value c.self.invariant.output))
    (ap length c.store-in-15.ensures.bytes ∙ length-store_in c.self.inside.output (c.args.addr % 268435456) c.args.width c.args.value)

pub returns-in-15-clause-done : goal.returns-in-15-clause-done
returns-in-15-clause-done c =
    (stores-output (areas_of c.self.inside) c.args.addr c.args.width c.args.value c.store-in-15.new.self c.store-in-15.result (omega arith) c.store-in-15.ensures.done c.store-in-15.ensures.bytes).done
    ∙ ap (λ (a : Areas). is_some (store_to a c.args.addr c.args.width c.args.value)) c.self.view_is

pub returns-in-15-clause-areas : goal.returns-in-15-clause-areas
returns-in-15-clause-areas c =
    (stores-output (areas_of c.self.inside) c.args.addr c.args.width c.args.value c.store-in-15.new.self c.store-in-15.result (omega arith) c.store-in-15.ensures.done c.store-in-15.ensures.bytes).areas
    ∙ ap (λ (a : Areas). unwrap_or (store_to a c.args.addr c.args.width c.args.value) a) c.self.view_is

pub returns-in_default-clause-done : goal.returns-in_default-clause-done
returns-in_default-clause-done c =
    ap is_some (sym (no_store c.args.self.now c.args.addr c.args.width c.args.value (λ e. omega arith) (λ e. omega arith) (λ e. omega arith) (λ e. omega arith)))

pub returns-in_default-clause-areas : goal.returns-in_default-clause-areas
returns-in_default-clause-areas c =
    ap (λ o. unwrap_or o c.args.self.now) (sym (no_store c.args.self.now c.args.addr c.args.width c.args.value (λ e. omega arith) (λ e. omega arith) (λ e. omega arith) (λ e. omega arith)))
