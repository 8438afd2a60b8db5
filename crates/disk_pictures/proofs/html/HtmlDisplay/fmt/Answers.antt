-- All bytes were shown, with escapes or without.
use Rattle.std.proofs.Common.{◌≡◌, ◌<◌, ◌+◌, ◌++◌, Bool, List, [], ap, get_or, length, not, refl, sym, take, true}
use Rattle.std.proofs.Common.{false, ℕ, ◌∙◌}
use Rattle.std.specs.Prelude.{flat_map, if◌then◌else◌}
use Rattle.std.proofs.Output.{has_written_of_eq}
use Rattle.std.proofs.lemmas.Grind.{put_two}
use Rattle.std.proofs.lemmas.List.{flat_map_more, take_all, take_more}
use Rattle.disk_pictures.specs.Html.{html_byte, html_of, is_long, plain_byte}
use Rattle.disk_pictures.proofs.html.HtmlDisplay.fmt.Goals as goal

shown : (bytes : List ℕ) (long : Bool) → is_long bytes ≡ long
    → flat_map (λ b. if not long then html_byte b else plain_byte b) bytes ≡ html_of bytes
unfolding html_of
shown bytes true long = rw long refl
shown bytes false short = rw short refl

more : (line : ℕ → List ℕ) (bytes : List ℕ) (i : ℕ) → i < length bytes
    → flat_map line (take i bytes) ++ line (get_or bytes i 0) ≡ flat_map line (take (i + 1) bytes)
more line bytes i inside =
    flat_map_more line [] (take i bytes) (get_or bytes i 0) ∙ ap (flat_map line) (sym (take_more bytes i 0 inside))

pub loop-byte-preserved : goal.loop-byte-preserved
loop-byte-preserved g c = λ plain.
    let so_far = c.loop-byte.invariant plain in
    put_two g.W.Write.write_str_gives c.args.f.now c.loop-byte.f c.write.new.self _ _ _ so_far
    (c.in_ok-write.ensures.writes so_far.plain (refl {a = true}))
    (more _ c.args.self.now.0.now c.loop-byte.byte-index c.loop-byte-test.true)

pub returns-clause-writes : goal.returns-clause-writes
returns-clause-writes g c = λ plain done.
    let bytes = c.args.self.now.0.now in
    let all = take_all _ bytes c.loop-byte-test.false in
    has_written_of_eq _ _ _ _ _
    (ap (flat_map _) all ∙ shown bytes c.is_long-escaped.result (sym c.is_long-escaped.ensures))
    (c.loop-byte.invariant plain)
