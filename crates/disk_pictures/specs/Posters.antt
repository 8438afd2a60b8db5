-- The poster of a disk: an SVG file of its own, 297 by 420 units. All of it is our own. Bytes of the disk stand in it as `show`
-- shows them, and names also as `signs` does, and in no other way. The poster that is printed shows them by `html_of` and
-- `petscii_of`.
use Rattle.std.specs.Prelude.{ℕ, ◌+◌, ◌*◌, ◌/◌, ◌%◌, List, [], ◌∷◌, ◌++◌, codes, decimal, if◌then◌else◌, length, nat_le, slice_range}
use Rattle.d64_image.specs.Images.{Sector}
use Rattle.disk_layout.specs.Directory.{type_byte}
use Rattle.disk_layout.specs.Layout.{File, Layout, count_field}
use Rattle.disk_pictures.specs.Html.{Show, html_of}
use Rattle.disk_pictures.specs.Legends.{legend_of, poster_legend}
use Rattle.damaged_files.specs.reached.Names.{disk_name, name_of}
use Rattle.disk_pictures.specs.Petscii.{petscii_of}
use Rattle.disk_pictures.specs.Pictures.{dashes, drawing_text, look}
use Rattle.disk_pictures.specs.Sentences.{summary_text}
use Rattle.damaged_files.specs.reached.Types.{type_text}
use Rattle.disk_pictures.specs.Texts.{numbered}
use Rattle.disk_pictures.specs.declared.verdicts.Verdict.{Verdict}
use Rattle.disk_pictures.specs.declared.pages.poster.TheConstants as poster

-- the beginning of a poster, up to its title
unfoldable pub poster_begin : List ℕ
poster_begin = poster.HEAD.now

-- the end of the style, the paper, and the beginning of the disk's name above the drawing
unfoldable pub paper : List ℕ
paper = poster.PAPER.now

-- the beginning of the drawing, up to the disk's name in its middle
unfoldable pub poster_drawing : List ℕ
poster_drawing = poster.DRAWING.now

-- the poster's style
unfoldable pub poster_style : List ℕ
poster_style = poster.STYLE.now

-- the head of the poster, from 18/0: the disk's name, as it is typed and as a C64 shows it, and the style
unfoldable pub poster_head : Show → Show → Sector → List ℕ
poster_head show signs map =
    poster_begin ++ (show (disk_name map)
    ++ (codes "</title>\n<style>" ++ (poster_style ++ (dashes
    ++ (paper ++ (show (disk_name map)
    ++ (codes "</text>\n<text class=\"told\" x=\"148.5\" y=\"33\"><tspan>" ++ (signs (disk_name map)
    ++ codes "</tspan> 1541 disk, id "))))))))

-- what follows: id and version, the result of a check as a sentence, and the beginning of the drawing, with the disk's
-- name in the middle
unfoldable pub poster_told : Show → Verdict → Sector → Layout → List ℕ
poster_told show v map l =
    show (slice_range map 162 164) ++ (codes " " ++ (show (slice_range map 165 167)
    ++ (codes "</text>\n<text class=\"told\" x=\"148.5\" y=\"40\">" ++ (summary_text show v map l
    ++ (poster_drawing ++ (show (disk_name map)
    ++ codes "</text></svg>\n<g transform=\"rotate(-90)\">\n"))))))

-- where the line of entry k of n stands: up to 12 of 9 units in one column, up to 36 of 6 units in two columns of 18, or
-- more of 3 units in four columns of 36
abbrev pub line_left : ℕ → ℕ → ℕ
line_left n k = if nat_le n 12 then 20 else (if nat_le n 36 then 20 + 130 * (k / 18 % 2) else 20 + 65 * (k / 36 % 4))

-- how far down it stands
abbrev pub line_top : ℕ → ℕ → ℕ
line_top n k =
    if nat_le n 12 then 306 + 9 * (k % 12) else (if nat_le n 36 then 306 + 6 * (k % 18) else 306 + 3 * (k % 36))

-- how wide the line of one of n entries is
abbrev pub line_width : ℕ → ℕ
line_width n = if nat_le n 12 then 189 else (if nat_le n 36 then 126 else 63)

-- and how high
abbrev pub line_height : ℕ → ℕ
line_height n = if nat_le n 12 then 9 else (if nat_le n 36 then 6 else 3)

-- the beginning of the line of entry k of n: where it stands, its size, and its colour and shape
unfoldable pub line_start : ℕ → ℕ → List ℕ
line_start n k =
    codes "<svg x=\"" ++ (decimal (line_left n k) ++ (codes "\" y=\"" ++ (decimal (line_top n k)
    ++ (codes "\" width=\"" ++ (decimal (line_width n) ++ (codes "\" height=\"" ++ (decimal (line_height n)
    ++ (codes "\" viewBox=\"0 0 63 3\"><path class=\"" ++ (look k ++ codes "\" d=\"M0 1.5h3\"/>")))))))))

-- the line of entry k of n: its block count as stored, its type, its name, and that as a C64 shows it
unfoldable pub poster_line : Show → Show → ℕ → ℕ → File → List ℕ
poster_line show signs n k f =
    line_start n k ++ (codes "<text class=\"e\" x=\"10\" y=\"2.3\">" ++ (decimal (count_field f.slot)
    ++ (codes "</text><text x=\"11.5\" y=\"2.3\">" ++ (type_text (codes "&lt;") (type_byte f.slot)
    ++ (codes "</text><g transform=\"translate(19)\" clip-path=\"url(#n)\"><text y=\"2.3\">" ++ (show (name_of f.slot)
    ++ (codes "</text></g><text x=\"41.5\" y=\"2.3\">" ++ (signs (name_of f.slot) ++ codes "</text></svg>\n"))))))))

-- the poster up to its end, by how bytes of the disk are shown
unfoldable pub poster_text : Show → Show → Verdict → Sector → Layout → List ℕ
poster_text show signs v map l =
    poster_head show signs map ++ (poster_told show v map l ++ (drawing_text show v.found map l
    ++ (poster_legend (legend_of v.found map l) ++ numbered (poster_line show signs (length l.files)) 0 l.files)))

-- its end, if these lines say what isn't on the disk: with a sentence between the drawing and the directory, if there are any
abbrev pub poster_end : (lines : List ℕ) → List ℕ
poster_end [] = codes "</svg>\n"
poster_end (_ ∷ _) = codes
    "<text class=\"told\" x=\"148.5\" y=\"300\">Not on the disk of 35 tracks: what `ledger check --as-is` lists</text>\n</svg>\n"

-- the poster of a disk, up to its end
abbrev pub poster_of : Verdict → Sector → Layout → List ℕ
poster_of v map l = poster_text html_of petscii_of v map l
