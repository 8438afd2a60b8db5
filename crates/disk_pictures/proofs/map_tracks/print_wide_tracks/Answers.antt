-- The head, and then one track more.
use Rattle.std.proofs.Common.{◌≡◌, ◌+◌, ◌++◌, ℕ, List, arith, subst}
use Rattle.std.specs.Prelude.{Option}
use Rattle.std.specs.Io.KnownBytes.{Appends}
use Rattle.d64_image.specs.Images.{Sector}
use Rattle.disk_layout.specs.Layout.{Layout}
use Rattle.disk_layout.specs.declared.faults.Fault.{Fault}
use Rattle.disk_pictures.proofs.Printing.{begun, begun-more}
use Rattle.disk_pictures.specs.Held.{drawn_in}
use Rattle.disk_pictures.specs.Maps.{wide_head, wide_tracks, wide_line}
use Rattle.disk_pictures.specs.Texts.{each_below}
use Rattle.disk_pictures.proofs.map_tracks.print_wide_tracks.Goals as goal

all-tracks : (a b : Option (List ℕ)) (v : Option Fault) (map : Sector) (l : Layout) (n : ℕ) → n ≡ 35
    → Appends a b (wide_head ++ each_below n (λ below. wide_line v map l (below + 1)))
    → Appends a b (wide_tracks v map l)
unfolding wide_tracks
all-tracks a b v map l n all lines =
    subst (λ (k : ℕ). Appends a b (wide_head ++ each_below k (λ below. wide_line v map l (below + 1)))) all lines

pub loop-below-init : goal.loop-below-init
loop-below-init g c = begun _ _ _ _ c.in_ok-print_text.ensures.ok

pub loop-below-preserved : goal.loop-below-preserved
loop-below-preserved g c =
    let d = c.args.drawing.now in
    begun-more _ _ _ wide_head c.loop-below.below (λ n. wide_line c.args.found d.map (drawn_in d) (n + 1))
    c.loop-below.invariant c.in_ok-print_wide_track.ensures.ok

pub returns-clause-ok : goal.returns-clause-ok
returns-clause-ok g c =
    let d = c.args.drawing.now in
    all-tracks _ _ c.args.found d.map (drawn_in d) c.loop-below.below
    (omega (arith, c.loop-below-test.false, c.loop-below.auto.below-end)) c.loop-below.invariant
