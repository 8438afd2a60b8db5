-- The ends of a run of events.
use Rattle.std.proofs.Common.{◌≡◌, ◌≤◌, ◌+◌, ◌-◌, ◌++◌, ◌∙◌, List, Ok, arith, le_refl, length, map, refl, subst, sym, ℕ}
use Rattle.std.proofs.lemmas.List.{length-map}
use Rattle.std.specs.Prelude.{vec_capacity, vec_len}
use Rattle.host_session.proofs.lemmas.Held.{start}
use Rattle.request_cards.specs.declared.reply.Reply.{Reply}
use Rattle.host_session.proofs.lemmas.runs.EventEnds.{IsEventsEnd, faulted, spared, whole_run}
use Rattle.host_session.proofs.lemmas.runs.QuietRuns.{quiet_same}
use Rattle.host_session.proofs.lemmas.runs.QuietWrites.{spared_same}
use Rattle.host_session.proofs.lemmas.runs.Runs.{held_none}
use Rattle.host_session.proofs.lemmas.runs.Sparing.{same_bound}
use Rattle.host_session.specs.declared.faults.OpenFault.{OpenFault}
use Rattle.host_session.specs.declared.runs.plays.PlayFault.TheVariants as faults
use Rattle.host_session.specs.events.Asking.{of_events}
use Rattle.host_session.specs.events.Events.{message_of}
use Rattle.host_session.specs.runs.Loops.{IsRun}
use Rattle.host_session.specs.runs.Outputs.{listed}
use Rattle.host_session.specs.shop.Shop.{IsShop}
use Rattle.host_session.proofs.runs.plays.play.Goals as goal

-- so many more have room
have_room : (len more most : ℕ) → len + more ≤ most → more ≤ most - len
have_room len more most fits = omega (arith, fits)

-- what is told without room isn't told of the device, or of an opening
memory_no_device : faults.NoMemory ≡ faults.Device → ⊥
memory_no_device is = cc

memory_no_opening : (f : OpenFault) → faults.NoMemory ≡ faults.Open f → ⊥
memory_no_opening f is = cc

-- no room for the replies
pub returns-in-Err : goal.returns-in-Err
returns-in-Err g c =
    let h = g.D.Sectors.history in
    let ms = map message_of c.args.events.now in
    let disk = c.args.disk in
    record {
      shop = tt;
      ok = λ s shop. tt;
      device = λ s shop is. absurd (memory_no_device is);
      moments = λ s shop. held_none h s ms disk disk (start h disk (λ i. IsShop i s) shop) (le_refl (h.failures disk));
      quiet = λ s shop _. quiet_same h s ms disk shop;
      spared = λ s shop _. spared_same h s disk;
      writes = λ s shop _. same_bound h ms disk;
      unfailed = λ uncut. tt;
      plays = λ shop never. refl;
      «open» = λ f is. absurd (memory_no_opening f is);
      cause = λ is. absurd (memory_no_device is);
      memory = λ is. (refl, omega (arith, c.in-Err.ensures.full, length-map c.args.events.now message_of));
      silent = λ other. c.try_reserve.ensures.items;
    }

pub returns-in-Ok-run : goal.returns-in-Ok-run
returns-in-Ok-run g c =
    let h = g.D.Sectors.history in
    let old = c.try_reserve.new.self in
    let new = c.run.new.out in
    let fits = have_room (vec_len old) (length c.args.events.now) (vec_capacity old) c.in-Ok.ensures.ok in
    let k = subst (IsRun h of_events listed c.args.disk c.new-asks.result c.run.new.asks old new) c.in-Ok-run.is
    c.run.ensures in
    let w = whole_run h c.args.disk c.args.events.now c.new-asks.result c.run.new.asks old new c.new-asks.ensures.events
    c.new-asks.ensures.none
    fits c.in-Ok-run.disk k in
    record {
      shop = k.shop.0;
      ok = λ s shop.
          let x = w.0 s shop in
          (x.0, subst (λ (xs : List Reply). new.items ≡ xs ++ x.0) c.in-Ok.ensures.items x.1, x.2);
      device = λ s shop. tt;
      moments = w.1;
      quiet = w.2;
      spared = spared h c.args.disk c.args.events.now c.new-asks.result c.run.new.asks old new c.new-asks.ensures.events
          c.new-asks.ensures.none fits (Ok c.in-Ok-run.disk) k;
      writes = w.3;
      unfailed = w.4;
      plays = λ shop never. tt;
      «open» = tt;
      cause = tt;
      memory = tt;
      silent = tt;
    }

pub returns-in-Err-run : goal.returns-in-Err-run
returns-in-Err-run g c =
    let h = g.D.Sectors.history in
    let old = c.try_reserve.new.self in
    let new = c.run.new.out in
    let fits = have_room (vec_len old) (length c.args.events.now) (vec_capacity old) c.in-Ok.ensures.ok in
    let k = subst (IsRun h of_events listed c.args.disk c.new-asks.result c.run.new.asks old new) c.in-Err-run.is
    c.run.ensures in
    let e = subst (IsEventsEnd h c.args.disk c.in-Err-run.disk (map message_of c.args.events.now) old.items new.items)
    (sym c.fault_of.ensures)
    (faulted h c.args.disk c.args.events.now c.new-asks.result c.run.new.asks old new c.new-asks.ensures.events
    c.new-asks.ensures.none
    fits c.in-Err-run.disk c.in-Err-run.fault k) in
    record {
      shop = tt;
      ok = λ s shop. tt;
      device = λ s shop is.
          let x = e.device s shop is in
          (x.0, subst (λ (xs : List Reply). new.items ≡ xs ++ x.0) c.in-Ok.ensures.items x.1, x.2, x.3);
      moments = e.moments;
      quiet = e.quiet;
      spared = e.spared;
      writes = e.writes;
      unfailed = λ uncut. tt;
      plays = e.plays;
      «open» = e.«open»;
      cause = e.cause;
      memory = λ is. absurd (e.memory is);
      silent = λ other. e.silent other ∙ c.in-Ok.ensures.items;
    }
