-- The digests' texts were written one after another.
use Rattle.std.proofs.Common.{List, subst, ℕ}
use Rattle.std.proofs.lemmas.Result.{on_ok_weaker}
use Rattle.std.specs.Io.KnownBytes.{Appends}
use Rattle.std.specs.Prelude.{flat_map}
use Rattle.disk_reports.proofs.Written.{four}
use Rattle.disk_reports.specs.Json.{digits}
use Rattle.disk_reports.proofs.rows.print_row_hashes.Goals as goal

pub returns : goal.returns
returns g c =
    let told = g.W.Write.contents in
    let first = subst (λ (bytes : List ℕ). Appends (told c.args.out.now) (told c.print_hex.new.out) (flat_map digits bytes))
    c.digest.ensures c.in_ok-print_hex.ensures in
    let second = subst (λ (bytes : List ℕ). Appends (told c.write_all.new.self) (told c.print_hex-2.new.out) (flat_map digits bytes))
    c.digest-2.ensures c.in_ok-print_hex-2.ensures in
    on_ok_weaker c.write_all-2.result (four _ _ _ _ _ _ _ _ _ first c.in_ok-write_all.ensures.bytes second)
    c.write_all-2.ensures.bytes
