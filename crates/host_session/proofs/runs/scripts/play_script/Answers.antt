-- The ends of a script's run.
use Rattle.std.proofs.Common.{◌∙◌, ℕ, Some, Err, ap, inl, le_refl, refl, subst, sym}
use Rattle.std.proofs.lemmas.Option.{same_Some}
use Rattle.host_session.proofs.lemmas.Held.{start}
use Rattle.line_text.specs.scripts.Lines.{lines}
use Rattle.host_session.proofs.lemmas.runs.QuietRuns.{quiet_same}
use Rattle.host_session.proofs.lemmas.runs.QuietWrites.{spared_same}
use Rattle.host_session.proofs.lemmas.runs.Runs.{held_none}
use Rattle.host_session.proofs.lemmas.runs.ScriptFaults.{line-device, line-open, line-output, line_of}
use Rattle.host_session.proofs.lemmas.runs.ScriptEnds.{faulted, played_out}
use Rattle.host_session.proofs.lemmas.runs.Sparing.{same_bound}
use Rattle.host_session.specs.events.Asking.{of_script}
use Rattle.host_session.specs.events.Events.{messages_of}
use Rattle.host_session.specs.runs.Loops.{IsRun}
use Rattle.host_session.specs.runs.ScriptRuns.{IsScriptRun}
use Rattle.host_session.specs.shop.Shop.{IsShop}
use Rattle.host_session.specs.declared.runs.scripts.ScriptFault.{ScriptFault}
use Rattle.host_session.specs.declared.runs.scripts.ScriptFault.TheVariants as ends
use Rattle.host_session.proofs.runs.scripts.play_script.Goals as goal

pub returns-in-Some : goal.returns-in-Some
returns-in-Some g c = record {
  bad_line = λ n e. (ap (λ (k : ℕ). Err (ends.BadLine k, c.args.disk)) (same_Some _ _ (c.in-Some.ensures ∙ e)), refl);
  good = λ n e. sym c.in-Some.ensures ∙ ap (λ (x : ScriptFault). Some (line_of x)) e;
  shop = tt;
  ok = λ s shop. tt;
  without_resets = λ s shop none. tt;
  output = λ s shop e. absurd (line-output c.in-Some.line e);
  device = λ s shop e. absurd (line-device c.in-Some.line e);
  moments = λ s shop.
      let h = g.D.Sectors.history in
      held_none h s (messages_of (lines c.args.script.now)) c.args.disk c.args.disk
      (start h c.args.disk (λ i. IsShop i s) shop) (le_refl (h.failures c.args.disk));
  quiet = λ s shop _. quiet_same g.D.Sectors.history s (messages_of (lines c.args.script.now)) c.args.disk shop;
  spared = λ s shop _. spared_same g.D.Sectors.history s c.args.disk;
  writes = λ s shop _ _. same_bound g.D.Sectors.history (messages_of (lines c.args.script.now)) c.args.disk;
  plays = λ shop never. inl (c.in-Some.line, refl);
  «open» = λ f e. absurd (line-open c.in-Some.line f e);
  cause = λ e. absurd (line-device c.in-Some.line e);
  after = λ e. absurd (line-output c.in-Some.line e);
}

pub returns-in-Ok : goal.returns-in-Ok
returns-in-Ok g c =
    let h = g.D.Sectors.history in
    let o = g.T.Replies.output in
    played_out h o c.args.disk c.args.script.now c.new-asks.result c.run.new.asks c.args.out.now c.run.new.out
    c.new-asks.ensures (sym c.in_default.ensures)
    c.in-Ok.disk (subst (IsRun h of_script o c.args.disk c.new-asks.result c.run.new.asks c.args.out.now c.run.new.out)
    c.in-Ok.is c.run.ensures)

pub returns-in-Err : goal.returns-in-Err
returns-in-Err g c =
    let h = g.D.Sectors.history in
    let o = g.T.Replies.output in
    subst (λ f. IsScriptRun h o c.args.disk c.args.script.now c.args.out.now c.run.new.out (Err (f, c.in-Err.disk)))
    (sym c.fault_of.ensures)
    (faulted h o c.args.disk c.args.script.now c.new-asks.result c.run.new.asks c.args.out.now c.run.new.out
    c.new-asks.ensures (sym c.in_default.ensures)
    c.in-Err.disk c.in-Err.fault
    (subst (IsRun h of_script o c.args.disk c.new-asks.result c.run.new.asks c.args.out.now c.run.new.out) c.in-Err.is
    c.run.ensures))
