use Rattle.std.proofs.Common.{◌-◌, ◌+◌, ◌≡◌, ◌≤◌, Some}
use Rattle.sl_model.specs.Pages.{bytes_at}
use Rattle.replay.proofs.copying.bytes_in.Given as goal

abbrev pub invariant-loop-at : goal.invariant-loop-at
invariant-loop-at l = record {
  end : l.end ≡ l.fn.addr + l.fn.len;
  from : l.fn.addr ≤ l.at;
  to : l.at ≤ l.end;
  copied : bytes_at l.f.pages l.fn.addr (l.at - l.fn.addr) ≡ Some l.bytes.items;
}

abbrev pub decreases-loop-at : goal.decreases-loop-at
decreases-loop-at l = l.end - l.at
