-- The lines of a script, one by one.
use Rattle.std.proofs.Common.{◌∙◌, ◌+◌, [], ℕ, ap, arith, length, refl}
use Rattle.std.proofs.lemmas.List.{length-map, length_push}
use Rattle.arrayvec.specs.ArrayVec.{ArrayVec}
use Rattle.host_session.specs.declared.events.sources.Next.TheVariants as next
use Rattle.line_server.specs.Batches.{texts_of}
use Rattle.line_server.specs.Scripts.{crlf_text}
use Rattle.line_server.proofs.LinesGiven.{line_given}
use Rattle.line_server.proofs.Together.{taken}
use Rattle.line_server.proofs.scripts.ScriptBatches.take_lines.Goals as goal

pub loop-preserved : goal.loop-preserved
loop-preserved c = (
  line_given _ c.loop.self.left.now c.in-Some.more.now c.in-Some.line.now c.loop.lines.items c.push_reserved.new.self.items
      c.kept_of.result c.loop.invariant.0 c.in-Some.ensures.0 c.kept_of.ensures c.push_reserved.ensures.items,
  ap length c.push_reserved.ensures.items ∙ length_push c.loop.lines.items c.kept_of.result
      ∙ ap (λ n. n + 1) c.loop.invariant.1,
  omega (arith, c.loop.invariant.2, c.push_reserved.ensures.capacity),
)

pub returns-in_default-clause-taken : goal.returns-in_default-clause-taken
returns-in_default-clause-taken c =
    taken _ _ _ (texts_of c.loop.lines.items) [] next.End c.loop.invariant.0
    (omega (arith, length-map c.loop.lines.items (λ (l : ArrayVec ℕ). l.items), c.loop.invariant.1, c.loop-test.true))
    tt refl (λ e. cc) (λ e. ap crlf_text c.in_default.ensures)
