-- A drawing as the code holds it. Our own.
use Rattle.disk_layout.specs.Layout.{Layout}
use Rattle.disk_pictures.specs.Drawings.{drawn_of}
use Rattle.disk_pictures.specs.declared.drawing.Drawing.{Drawing}

-- what it is a drawing of
abbrev pub drawn_in : Drawing → Layout
drawn_in d = drawn_of d.directory.items d.files.items
