-- So many bytes more were written.
use Rattle.std.proofs.Common.{◌≡◌, ◌≤◌, ◌-◌, ℕ, List, ap, arith, drop, le_refl, length, length-drop, subst, sym, take}
use Rattle.std.proofs.lemmas.List.{take_all}
use Rattle.std.specs.Io.KnownBytes.{Appends}
use Rattle.std.proofs.KnownBytes.{Appends-kept, Appends-nil, Appends-trans}
use Rattle.line_text.proofs.handing.hand_whole.Goals.{in-Ok, in-Err+else-ne}
use Rattle.line_text.proofs.handing.hand_whole.Goals as goal
use Rattle.line_text.proofs.lemmas.Handed.{take-more}

-- none is written yet
none_yet : (n : ℕ) → 0 ≤ n
none_yet n = omega arith

pub loop-init : goal.loop-init
loop-init g c = record {
  within = none_yet (length c.args.bytes.now);
  wrote = Appends-nil (g.W.Write.contents c.args.out.now);
}

pub returns-then-written-bytes-clause-ok : goal.returns-then-written-bytes-clause-ok
returns-then-written-bytes-clause-ok g c =
    let bytes : List ℕ = c.args.bytes.now in
    let a = g.W.Write.contents c.args.out.now in
    let b = g.W.Write.contents c.loop.out in
    let long = subst (λ n. length bytes ≤ n) (sym c.if-written-bytes.true) (le_refl (length bytes)) in
    subst (Appends a b) (take_all c.loop.written bytes long) c.loop.invariant.wrote

pub slice_bounds-write-count : goal.slice_bounds-write-count
slice_bounds-write-count g c = c.loop.invariant.within

pub returns-then-ne-clause-err : goal.returns-then-ne-clause-err
returns-then-ne-clause-err g c = (
  c.loop.written,
  Appends-kept (g.W.Write.contents c.args.out.now) (g.W.Write.contents c.loop.out)
      (g.W.Write.contents c.write.new.self)
      (take c.loop.written c.args.bytes.now) c.loop.invariant.wrote c.in-Err.ensures.bytes,
)

pub returns-clause-err : goal.returns-clause-err
returns-clause-err g c = (c.loop.written, c.loop.invariant.wrote)

pub loop-preserved : goal.loop-preserved
loop-preserved g c =
    let k = c.loop.invariant in
    let a = g.W.Write.contents c.args.out.now in
    let b = g.W.Write.contents c.loop.out in
    let d = g.W.Write.contents c.write.new.self in
    let bytes : List ℕ = c.args.bytes.now in
    let rest : List ℕ = drop c.loop.written bytes in
    let long = length-drop c.loop.written bytes in
    let all : take (length bytes - c.loop.written) rest ≡ rest = take_all (length bytes - c.loop.written) rest
    (omega (arith, long, k.within)) in
    elim c.match-write.branch [
      | in-Ok w ↦ record {
        within = omega (arith, k.within, w.in-Ok.ensures.bound, ap length all, long, w.written-is);
        wrote = subst (λ n. Appends a d (take n bytes)) (sym w.written-is)
            (subst (Appends a d) (sym (take-more c.loop.written w.in-Ok.more bytes))
            (Appends-trans a b d (take c.loop.written bytes) (take w.in-Ok.more rest) k.wrote
            (subst (λ xs. Appends b d (take w.in-Ok.more xs)) all w.in-Ok.ensures.bytes)));
      }
      | in-Err+else-ne w ↦ record {
        within = omega (arith, k.within, w.written-is);
        wrote = subst (λ n. Appends a d (take n bytes)) (sym w.written-is)
            (Appends-kept a b d (take c.loop.written bytes) k.wrote w.in-Err.ensures.bytes);
      }
    ]
