-- Read by read.
use Rattle.std.proofs.Common.{◌∙◌, ap, arith, false, refl, subst, sym}
use Rattle.one_host.specs.History.{Until}
use Rattle.one_host.proofs.Moments.{joined, start}
use Rattle.line_server.specs.Batches.{texts_of}
use Rattle.served_lines.specs.Readings.{Gives, OnlyHeard, bytes_read}
use Rattle.served_lines.proofs.Read.{begins, few_of, gives_more, gives_none, gives_some, gives_up, hears, none_of, only_none, read_after, read_moments}
use Rattle.served_lines.proofs.reading.LineInput.give_lines.Goals as goal

pub loop-init : goal.loop-init
loop-init g c =
    let S = g.H.Host.history in
    let v = S.world c.args.host.now in
    record {
      room = c.requires.room;
      told = λ known. refl;
      any_moment = λ known n le. start S c.args.host.now (Until n (OnlyHeard v)) (λ e. only_none v);
      only = λ known n le. record { count = le; is = λ e. only_none v };
      so_far = λ known n le. record { count = le; is = λ e. (λ before begun. begins v c.args.self.now before begun, omega arith) };
    }

pub returns-then-not-is_empty-clause-ok : goal.returns-then-not-is_empty-clause-ok
returns-then-not-is_empty-clause-ok g c known n le =
    let S = g.H.Host.history in
    gives_some S c.loop.host c.loop.host n (S.world c.args.host.now) c.args.self.now c.loop.self c.take.new.self c.take.new.self c.loop.counter
    (c.loop.invariant.so_far known n le) (texts_of c.take.new.lines.items) c.take.ensures.taken

pub returns-in_err-read-clause-any_moment : goal.returns-in_err-read-clause-any_moment
returns-in_err-read-clause-any_moment g c known n le =
    let S = g.H.Host.history in
    let v = S.world c.args.host.now in
    joined S c.args.host.now c.loop.host c.read.new.host (Until n (OnlyHeard v)) (c.loop.invariant.any_moment known n le)
    (read_moments S c.loop.host c.read.new.host n v (bytes_read c.read.new.self) (c.loop.invariant.only known n le) _ (c.read.ensures.steps known))

pub returns-then-branch-eq0-clause-any_moment : goal.returns-then-branch-eq0-clause-any_moment
returns-then-branch-eq0-clause-any_moment g c known n le =
    let S = g.H.Host.history in
    let v = S.world c.args.host.now in
    joined S c.args.host.now c.loop.host c.read.new.host (Until n (OnlyHeard v)) (c.loop.invariant.any_moment known n le)
    (read_moments S c.loop.host c.read.new.host n v (bytes_read c.read.new.self) (c.loop.invariant.only known n le) _ (c.read.ensures.steps known))

pub returns-then-branch-eq0-clause-ok : goal.returns-then-branch-eq0-clause-ok
returns-then-branch-eq0-clause-ok g c known n le =
    let S = g.H.Host.history in
    gives_none S c.loop.host c.read.new.host n (S.world c.args.host.now) c.args.self.now c.loop.self c.take.new.self c.read.new.self c.loop.counter
    (c.loop.invariant.so_far known n le) (texts_of c.take.new.lines.items) c.take.ensures.taken (ap texts_of (none_of c.take.new.lines.items c.take.new.lines.len c.is_empty.result (sym c.take.new.lines.ok.0) c.if-not-is_empty.false c.is_empty.ensures))
    (c.take.ensures.all (few_of c.take.new.lines.items (none_of c.take.new.lines.items c.take.new.lines.len c.is_empty.result (sym c.take.new.lines.ok.0) c.if-not-is_empty.false c.is_empty.ensures)))
    (bytes_read c.read.new.self) c.read.ensures.line c.in_ok-read.field-0 c.in_ok-read.ensures.left (c.in_ok-read.ensures.steps known) c.if-branch-eq0.true

pub loop-preserved : goal.loop-preserved
loop-preserved g c =
    let S = g.H.Host.history in
    let v = S.world c.args.host.now in
    record {
      room = c.take.ensures.room;
      told = λ known. (c.in_ok-read.ensures.steps known).told ∙ c.loop.invariant.told known;
      any_moment = λ known n le. joined S c.args.host.now c.loop.host c.read.new.host (Until n (OnlyHeard v)) (c.loop.invariant.any_moment known n le)
          (read_moments S c.loop.host c.read.new.host n v (bytes_read c.read.new.self) (c.loop.invariant.only known n le) _ (c.read.ensures.steps known));
      only = λ known n le. read_after S c.loop.host c.read.new.host n v (bytes_read c.read.new.self) (OnlyHeard v) (OnlyHeard v) (c.loop.invariant.only known n le)
          c.in_ok-read.field-0 (hears S c.loop.host c.read.new.host n v (bytes_read c.read.new.self) c.in_ok-read.field-0) (c.in_ok-read.ensures.steps known);
      so_far = λ known n le.
          gives_more S c.loop.host c.read.new.host n v c.args.self.now c.loop.self c.take.new.self c.read.new.self c.loop.counter
          (c.loop.invariant.so_far known n le) (texts_of c.take.new.lines.items) c.take.ensures.taken (ap texts_of (none_of c.take.new.lines.items c.take.new.lines.len c.is_empty.result (sym c.take.new.lines.ok.0) c.if-not-is_empty.false c.is_empty.ensures))
          (c.take.ensures.all (few_of c.take.new.lines.items (none_of c.take.new.lines.items c.take.new.lines.len c.is_empty.result (sym c.take.new.lines.ok.0) c.if-not-is_empty.false c.is_empty.ensures)))
          (bytes_read c.read.new.self) c.read.ensures.line c.in_ok-read.field-0 c.in_ok-read.ensures.left (c.in_ok-read.ensures.steps known) c.if-branch-eq0.false;
    }

pub returns-clause-ok : goal.returns-clause-ok
returns-clause-ok g c known n le =
    let S = g.H.Host.history in
    let v = S.world c.args.host.now in
    let at = c.loop.invariant.so_far known n le in
    record {
      count = at.count;
      is = λ e before begun. subst (λ ts. Gives v c.loop.self before ts false (S.world c.loop.host)) (sym (ap texts_of c.clear.ensures.items))
          (gives_up v c.loop.self before (S.world c.loop.host) ((at.is e).0 before begun)
          (omega (arith, (at.is e).1, c.loop-test.false)));
    }
