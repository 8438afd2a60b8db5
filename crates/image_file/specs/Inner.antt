-- What is known of a value, from what is known of one that it has in it. Our own.
use Rattle.std.specs.Prelude.{List, Option, ℕ}
use Rattle.image_file.specs.Lasting.{Lasting, Whole}
use Rattle.image_file.specs.Remains.{Remains}
use Rattle.image_file.specs.paths.Rights.{Rights}
use Rattle.image_file.specs.paths.Traces.{Traces}

module _ {N F : Type 0} (inner : N → F) where
  -- what a file holds, and what may remain of it
  abbrev pub remains_in : Remains F → Remains N
  remains_in r = record {
    held = λ n. r.held (inner n);
    moment = λ n. r.moment (inner n);
    remain = λ n. r.remain (inner n);
    sooner = λ n. r.sooner (inner n);
  }

  -- which of its bytes are kept
  abbrev pub lasting_in : Lasting F → Lasting N
  lasting_in l = record {
    bytes = λ n. l.bytes (inner n);
    moment = λ n. l.moment (inner n);
    stayed = λ n. l.stayed (inner n);
    small = λ n. l.small (inner n);
    now = λ n. l.now (inner n);
    only_now = λ n. l.only_now (inner n);
  }

  -- and that no write leaves a part of itself
  abbrev pub whole_in : {held : F → Option (List ℕ)} → Whole held → Whole (λ n. held (inner n))
  whole_in w = record { lasting = lasting_in w.lasting; is_held = λ n. w.is_held (inner n) }

  -- what may be done with the files of a host
  abbrev pub rights_in : Rights F → Rights N
  rights_in r = record { may = λ n. r.may (inner n); leads = λ n. r.leads (inner n) }

  -- what a host says of calls that were made
  abbrev pub traces_in : {M G : Type 0} → (M → G) → Traces F G → Traces N M
  traces_in file t = record {
    seen = λ n. t.seen (inner n);
    opened = λ n how path m. t.opened (inner n) how path (file m);
    moved = λ n. t.moved (inner n);
    renamed = λ n. t.renamed (inner n);
    removed = λ n. t.removed (inner n);
    made = λ n. t.made (inner n);
    synced = λ n. t.synced (inner n);
  }
