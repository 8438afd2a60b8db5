use Rattle.std.proofs.Common.{◌≡◌, ◌≢◌, ◌∙◌, IfSome, List, ℕ, ap, arith, rules, refl, sym, subst}
use Rattle.std.proofs.lemmas.Option.{MatchOption-at_some}
use Rattle.d64_image.proofs.Moments.{no_reads, reads_weaker}
use Rattle.drive_channels.proofs.Finds.{looked-put}
use Rattle.drive_channels.proofs.Openings.{tells-failed}
use Rattle.drive_channels.proofs.open_files.OpenFiles.look_up.Goals as goal
use Rattle.drive_channels.specs.Inside.{IsFound, found_in}
use Rattle.drive_channels.specs.declared.open_file.NamedFile.{NamedFile}
use Rattle.drive_channels.specs.declared.open_files.OpenFiles.{OpenFiles}
use Rattle.rel_records.proofs.lemmas.Told.{none-done}

pub returns-then-recall : goal.returns-then-recall
returns-then-recall g c =
    record {
      found = c.recall.ensures.found _ c.requires.shut.known c.if-recall.true;
      reads = reads_weaker g.D.Sectors.history _ _ 0 702 (omega arith) (no_reads g.D.Sectors.history _);
      failures = refl;
    }

pub returns-in-Some : goal.returns-in-Some
returns-in-Some g c =
    let other = c.recall.ensures.other c.if-recall.false in
    let told = MatchOption-at_some _
    (λ (e : NamedFile). IsFound (g.D.Sectors.history.image c.args.disk.now) e × (e.name.items ≡ c.args.name.now))
    c.in-Some.found c.in-Some.is c.in_ok-found.ensures.found in
    record {
      found =
          looked-put _ c.args.self.now c.set_last.new.self c.in-Some.found c.args.name.now c.requires.shut.known
          c.requires.shut.checked told.0 told.1
          (subst (λ (xs : List ℕ). IfSome c.args.self.now.last (λ o. o.found.name.items ≢ xs)) (sym told.1) other.1)
          c.set_last.ensures.last (c.set_last.ensures.before ∙ ap (λ (k : OpenFiles). found_in k.last) other.0)
          (c.set_last.ensures.checked ∙ c.recall.ensures.checked);
      reads = c.find_file.ensures.reads;
      failures = c.in_ok-found.ensures.failures;
    }

pub recall-requires : goal.recall-requires
recall-requires g c = record { closed = c.requires.shut.closed }

pub find_file-requires-clause-clean : goal.find_file-requires-clause-clean
find_file-requires-clause-clean g c = (c.requires.shut.known.remembered c.requires.shut.checked).clean

pub find_file-requires-clause-name : goal.find_file-requires-clause-name
find_file-requires-clause-name g c = c.requires.name

pub returns-in_err-found : goal.returns-in_err-found
returns-in_err-found g c =
    record {
      found = none-done c.from_residual.result _ c.from_residual.ensures.1 _;
      reads = c.find_file.ensures.reads;
      failures = tells-failed g.D.Sectors.history _ _ c.from_residual.result _ c.from_residual.ensures.1
          c.in_err-found.ensures.failures;
    }

pub returns-in-None : goal.returns-in-None
returns-in-None g c =
    record {
      found = search rules;
      reads = c.find_file.ensures.reads;
      failures = c.in_ok-found.ensures.failures;
    }
