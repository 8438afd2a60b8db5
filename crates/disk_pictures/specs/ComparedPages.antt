-- The comparison of two disks, before and after. It is an HTML page with the drawing of the second one, in which sectors
-- that differ are marked, and a list of the files that changed. All of it is our own. Bytes of the disks and of the images'
-- paths stand in it as `show` shows them, and names also as `signs` does, and in no other way.
use Rattle.std.specs.Prelude.{ℕ, ◌+◌, ◌||◌, Bool, List, [], ◌++◌, Option, Some, None, if◌then◌else◌, codes, decimal, length}
use Rattle.d64_image.specs.Images.{Image}
use Rattle.d64_image.specs.declared.place.Place.{Place}
use Rattle.disk_layout.specs.Layout.{File}
use Rattle.disk_pictures.specs.Comparisons.{Disk, are_bytes_changed, are_sectors_changed, counterpart, each_difference}
use Rattle.disk_pictures.specs.Comparisons.{have_same_records, is_entry_changed, is_record_changed, is_record_changed_before}
use Rattle.disk_pictures.specs.Comparisons.{most_records, number_of}
use Rattle.disk_pictures.specs.Html.{Show, html_of}
use Rattle.damaged_files.specs.reached.Names.{disk_name, name_of}
use Rattle.disk_pictures.specs.Petscii.{petscii_of}
use Rattle.disk_pictures.specs.Pictures.{drawing_text, end_text, link_text, look, ring_of, title_text, told_text, tracks}
use Rattle.disk_pictures.specs.Texts.{each_below, numbered, verdict_text}
use Rattle.disk_pictures.specs.declared.comparison.comparing.TheConstants as comparing
use Rattle.disk_pictures.specs.declared.comparison.differences.TheConstants as marks

-- the mark of a sector that differs: a line along it
unfoldable pub mark_arc : Place → List ℕ
mark_arc p = ring_of p ++ codes "/>\n"

-- the style of what a comparison has beyond a page: everything except the marks is pale
unfoldable pub marks_head : List ℕ
marks_head = marks.MARKS.now

-- the marks, one for each sector that differs
unfoldable pub marks_text : Image → Image → List ℕ
marks_text a b = marks_head ++ (each_difference mark_arc a b ++ codes "</g>\n")

-- how many sectors differ
abbrev pub differences : Image → Image → ℕ
differences a b = length (each_difference number_of a b)

-- the beginning of the sentence that says which images are compared
unfoldable pub compared_head : List ℕ
compared_head = comparing.START.now

-- the meaning of the marks and colours, and the head of the table
unfoldable pub compared_legend : List ℕ
compared_legend = comparing.LEGEND.now

-- the image's path, and with which disk it is compared: its image's path, its name and what is reported of it; and how many
-- sectors differ
unfoldable pub compared_text : Show → Disk → Disk → List ℕ
compared_text show a b =
    tracks ++ (compared_head ++ (show b.path ++ (codes "</b> compared with <b>" ++ (show a.path ++ (codes "</b>, "
    ++ (show (disk_name a.map) ++ (codes " (" ++ (verdict_text a.verdict ++ (codes "). Sectors that differ: "
    ++ (decimal (differences a.image b.image) ++ compared_legend))))))))))

-- in what a file differs: its entry, its sectors, its contents
abbrev pub parts_text : Bool → Bool → Bool → List ℕ
parts_text entry sectors bytes =
    (if entry then codes "entry " else [])
    ++ ((if sectors then codes "sectors " else []) ++ (if bytes then codes "bytes" else []))

-- number n of an ascending list, in which a run of neighbours is its first and its last one: 3 5-9
abbrev pub run_text : Bool → Bool → Bool → ℕ → List ℕ
run_text before here after n =
    if here then (if before then (if after then [] else codes "-" ++ decimal n) else codes " " ++ decimal n) else []

-- record n, from 0, in the list of those that differ, by its number from 1
abbrev pub record_text : Image → Image → File → File → ℕ → List ℕ
record_text a b g f n = run_text (is_record_changed_before a b g f n) (is_record_changed a b g f n)
    (is_record_changed a b g f (n + 1)) (n + 1)

-- the numbers of the records that differ
unfoldable pub records_cell : Image → Image → File → File → List ℕ
records_cell a b g f =
    if have_same_records g f then each_below (most_records g f) (record_text a b g f) else []

-- the beginning of the row of entry k: its colour, what it is, its name, in what it differs
unfoldable pub entry_head : Show → Show → ℕ → File → List ℕ → List ℕ → List ℕ
entry_head show signs k f state parts =
    codes "<tr><td><i class=\"" ++ (look k ++ (codes "\"></i></td><td>" ++ (state ++ (codes "</td><td>"
    ++ (link_text show signs k (name_of f.slot) ++ (codes "</td><td>" ++ (parts ++ codes "</td><td>")))))))

-- the end of a row
abbrev pub row_end : List ℕ
row_end = codes "</td></tr>\n"

-- the row of entry k of the second disk, which has no counterpart on the first one
abbrev pub new_row : Show → Show → ℕ → File → List ℕ
new_row show signs k f = entry_head show signs k f (codes "new") [] ++ row_end

-- the row of one that has one, g, and differs from it
unfoldable pub difference_row : Show → Show → Image → Image → ℕ → File → File → List ℕ
difference_row show signs a b k g f =
    entry_head show signs k f (codes "changed")
    (parts_text (is_entry_changed g f) (are_sectors_changed a b f) (are_bytes_changed a b g f))
    ++ (records_cell a b g f ++ row_end)

-- none if neither its entry nor one of its sectors differs
abbrev pub changed_row : Show → Show → Image → Image → ℕ → File → File → List ℕ
changed_row show signs a b k g f =
    if is_entry_changed g f || are_sectors_changed a b f then difference_row show signs a b k g f else []

-- either
abbrev pub row_by : Show → Show → Image → Image → ℕ → File → Option File → List ℕ
row_by show signs a b k f None = new_row show signs k f
row_by show signs a b k f (Some g) = changed_row show signs a b k g f

-- the row of entry k of the second disk
unfoldable pub entry_row : Show → Show → Disk → Disk → ℕ → File → List ℕ
entry_row show signs a b k f = row_by show signs a.image b.image k f (counterpart a.layout.files b.layout.files k f)

-- the row of an entry of this name on the first disk that has no counterpart on the second one
unfoldable pub gone_row : Show → Show → List ℕ → List ℕ
gone_row show signs name =
    codes "<tr><td></td><td>gone</td><td>" ++ (show name ++ (codes "<bdi>" ++ (signs name
    ++ codes "</bdi></td><td></td><td></td></tr>\n")))

-- the row of an entry of the first disk: none if it has a counterpart
abbrev pub gone_by : Show → Show → File → Option File → List ℕ
gone_by show signs g None = gone_row show signs (name_of g.slot)
gone_by show signs g (Some f) = []

-- the row of entry k of the first disk
unfoldable pub former_row : Show → Show → Disk → Disk → ℕ → File → List ℕ
former_row show signs a b k g = gone_by show signs g (counterpart b.layout.files a.layout.files k g)

-- the files that changed: those of the second disk in its order, then those that are gone
unfoldable pub changes_text : Show → Show → Disk → Disk → List ℕ
changes_text show signs a b =
    numbered (entry_row show signs a b) 0 b.layout.files ++ numbered (former_row show signs a b) 0 a.layout.files

-- the page, by how bytes of the disks are shown
unfoldable pub comparison_text : Show → Show → Disk → Disk → List ℕ
comparison_text show signs a b =
    title_text show signs b.map ++ (told_text show b.verdict b.map b.layout
    ++ (drawing_text show b.verdict.found b.map b.layout ++ (marks_text a.image b.image
    ++ (compared_text show a b ++ (changes_text show signs a b ++ end_text)))))

-- the comparison of two disks
abbrev pub comparison_page : Disk → Disk → List ℕ
comparison_page a b = comparison_text html_of petscii_of a b
