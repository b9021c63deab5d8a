use Rattle.std.proofs.Common.{◌≡◌, ◌+◌, ◌++◌, ◌∷◌, [], length, cond, sym, ap, ◌∙◌, arith, append-nil}
use Rattle.tracer_lang.specs.Firing.{fires_at}
use Rattle.tracepoints.specs.Chains.{chain_at, first_of, point_at}
use Rattle.tracepoints.proofs.Firing.{firing_more, length-firing_below}
use Rattle.tracepoints.proofs.Walks.{watching, first_of-nothing, goes_on, stands-end, left-behind}
use Rattle.tracepoints.proofs.points.Points.walk.Goals as goal
use Rattle.tracepoints.proofs.points.Points.walk.Goals.{in-Some, in-None, then-fires_at, else-fires_at}

pub loop-index-init : goal.loop-index-init
loop-index-init c =
    let points = c.args.self.now in
    let watch : c.match-store.watched ≡ first_of points 0 (watching c.args.store) =
    elim c.match-store.branch [
      | in-Some w ↦ rw (w.in-Some.is, w.watched-is) w.first-watched.ensures
      | in-None w ↦ rw (w.in-None.is, w.watched-is) (sym (first_of-nothing points 0))
    ] in (
      0,
      record {
        within = omega arith;
        chain = c.first-at.ensures ∙ ap (first_of points 0) c.chain_at.ensures.chain;
        watch = watch;
      },
      c.requires.empty,
    )

pub bounds-as_slice-index : goal.bounds-as_slice-index
bounds-as_slice-index c =
    let here = goes_on c.loop-index.invariant.1 (sym c.earlier.ensures ∙ c.in-Some-earlier.is) in
    rw (c.as_slice.ensures, c.self.view_is) here.within

pub push-requires : goal.push-requires
push-requires c =
    let here = goes_on c.loop-index.invariant.1 (sym c.earlier.ensures ∙ c.in-Some-earlier.is) in
    omega (
      arith,
      here.within,
      c.self.invariant.few,
      ap length c.self.view_is,
      ap length (c.loop-index.invariant.2 ∙ sym here.same),
      length-firing_below c.args.self.now c.args.pc c.args.store c.in-Some-earlier.index,
    )

pub past-at-requires : goal.past-at-requires
past-at-requires c =
    (goes_on c.loop-index.invariant.1 (sym c.earlier.ensures ∙ c.in-Some-earlier.is)).within

pub past-watched-requires : goal.past-watched-requires
past-watched-requires c =
    (goes_on c.loop-index.invariant.1 (sym c.earlier.ensures ∙ c.in-Some-earlier.is)).within

pub loop-index-preserved : goal.loop-index-preserved
loop-index-preserved c =
    let points = c.args.self.now in
    let i = c.in-Some-earlier.index in
    let out = c.loop-index.out in
    let here = goes_on c.loop-index.invariant.1 (sym c.earlier.ensures ∙ c.in-Some-earlier.is) in
    let fires : c.fires_at.result ≡ fires_at c.args.pc c.args.store (point_at points i) =
    rw (c.as_slice.ensures, c.self.view_is) at c.fires_at.ensures in
    let more : c.if-fires_at.out ≡ out ++ cond c.fires_at.result (i ∷ []) [] =
    elim c.if-fires_at.branch [
      | then-fires_at w ↦ rw (w.if-fires_at.true)
          (w.out-is ∙ w.push.ensures ∙ ap (λ n. out ++ n ∷ []) w.from.ensures)
      | else-fires_at w ↦ rw (w.if-fires_at.false) (w.out-is ∙ sym (append-nil out))
    ] in (
      i + 1,
      record {
        within = omega (arith, here.within);
        chain = c.past-at.ensures (chain_at c.args.pc) here.stands.chain;
        watch = c.past-watched.ensures (watching c.args.store) here.stands.watch;
      },
      more
          ∙ ap (λ xs. xs ++ cond c.fires_at.result (i ∷ []) []) (c.loop-index.invariant.2 ∙ sym here.same)
          ∙ sym (firing_more points c.args.pc c.args.store i c.fires_at.result (sym fires)),
    )

pub loop-index-smaller : goal.loop-index-smaller
loop-index-smaller c =
    let is = sym c.earlier.ensures ∙ c.in-Some-earlier.is in
    let here = goes_on c.loop-index.invariant.1 is in
    left-behind here is (record {
      within = omega (arith, here.within);
      chain = c.past-at.ensures (chain_at c.args.pc) here.stands.chain;
      watch = c.past-watched.ensures (watching c.args.store) here.stands.watch;
    })

pub returns : goal.returns
returns c =
    c.loop-index.invariant.2
    ∙ stands-end c.loop-index.invariant.1 (sym c.earlier.ensures ∙ c.in_default.is)
