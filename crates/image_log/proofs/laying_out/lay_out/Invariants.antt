use Rattle.std.proofs.Common.{◌≡◌, [], None, Some}
use Rattle.image_log.proofs.Laid.{Laid}
use Rattle.image_log.proofs.laying_out.lay_out.Given as goal

abbrev pub invariant-loop-k : goal.invariant-loop-k
invariant-loop-k g l = record {
  laid : g.F.LogFile.history.held l.fn.file ≡ Some [] → Laid (g.F.LogFile.history.held l.file);
  unknown : g.F.LogFile.history.held l.fn.file ≡ None → g.F.LogFile.history.held l.file ≡ None;
}
