-- Nothing was touched; or the blocks were made, written behind the others and synced.
use Rattle.std.proofs.Common.{◌≡◌, ◌∙◌, ℕ, List, ap, length, sym}
use Rattle.std.proofs.lemmas.Bool.{false≢true}
use Rattle.std.proofs.lemmas.List.{with_items_is}
use Rattle.image_log.specs.Blocks.{brought}
use Rattle.image_log.specs.Recovered.{recovered}
use Rattle.image_log.proofs.Ends.{commit_beside, commit_moments, commit_stands, quiet_beside, quiet_moments, quiet_stands, rest_after}
use Rattle.image_log.proofs.log.Log.commit.Goals as goal

pub returns-then-none_touched-clause-ok : goal.returns-then-none_touched-clause-ok
returns-then-none_touched-clause-ok g c start before s covers = quiet_stands c.args.self.now c.args.now.now c.args.touched.now
    c.requires.sized (c.none_touched.ensures.none c.if-none_touched.true) start before s covers

pub returns-then-none_touched-clause-beside : goal.returns-then-none_touched-clause-beside
returns-then-none_touched-clause-beside g c start before s covers = quiet_beside c.args.self.now c.args.now.now c.args.touched.now
    c.requires.sized (c.none_touched.ensures.none c.if-none_touched.true) start before s covers

pub returns-then-none_touched-clause-any_moment : goal.returns-then-none_touched-clause-any_moment
returns-then-none_touched-clause-any_moment g c start before s covers = quiet_moments c.args.self.now c.args.now.now c.args.touched.now
    c.requires.sized (c.none_touched.ensures.none c.if-none_touched.true) start before s covers

pub returns-in_err-n-clause-any_moment : goal.returns-in_err-n-clause-any_moment
returns-in_err-n-clause-any_moment g c = commit_moments c.args.self.now c.args.now.now c.args.touched.now
    c.requires.sized c.append_commit.new.file c.append_commit.ensures.moments

pub returns-clause-any_moment : goal.returns-clause-any_moment
returns-clause-any_moment g c = commit_moments c.args.self.now c.args.now.now c.args.touched.now
    c.requires.sized c.append_commit.new.file c.append_commit.ensures.moments

pub invariant_of-self-2-clause-rest : goal.invariant_of-self-2-clause-rest
invariant_of-self-2-clause-rest g c whole =
    let rest = c.args.self.now.rest (λ shut. false≢true (sym c.if-self.false ∙ shut)) in
    rest_after g.F.LogFile.history c.args.self.now.file c.append_commit.new.file c.args.self.now.end c.in_ok-n.n
    (λ (f : List ℕ). brought c.args.touched.now c.args.now.now 683 (recovered f)) c.append_commit.ensures.unknown
    (λ f held. c.in_ok-n.ensures.ok f (record { held = held; durable = rest.durable f held }) (rest.log f held))

pub returns-clause-ok : goal.returns-clause-ok
returns-clause-ok g c = commit_stands c.args.self.now c.args.now.now c.args.touched.now c.requires.sized
    _ c.in_ok-n.n false≢true c.in_ok-n.ensures.ok

pub returns-clause-beside : goal.returns-clause-beside
returns-clause-beside g c = commit_beside c.args.self.now c.args.now.now c.args.touched.now c.requires.sized
    _ c.in_ok-n.n c.in_ok-n.ensures.ok

pub invariant_of-self-2-clause-rooms : goal.invariant_of-self-2-clause-rooms
invariant_of-self-2-clause-rooms g c =
    let room = c.append_commit.new.room in
    let is : length room ≡ c.args.self.now.room.len = c.append_commit.auto.room ∙ c.deref_mut.ensures.len in
    ap length (with_items_is c.args.self.now.room room is) ∙ c.append_commit.ensures.room
