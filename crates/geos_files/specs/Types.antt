-- What GEOS calls the structures and the types of its files (GEOS: directory entries).
use Rattle.std.specs.Prelude.{ℕ, Bool, List, codes, if◌then◌else◌, nat_eq}

-- the structure of a file with records, and of one without
abbrev pub structure_name : (has_records : Bool) → List ℕ
structure_name has_records = if has_records then codes "VLIR" else codes "sequential"

-- the types by their numbers
abbrev pub geos_type_name : ℕ → List ℕ
geos_type_name kind =
    if nat_eq kind 1 then codes "BASIC"
    else if nat_eq kind 2 then codes "Assembler"
    else if nat_eq kind 3 then codes "Data"
    else if nat_eq kind 4 then codes "System"
    else if nat_eq kind 5 then codes "Desk Accessory"
    else if nat_eq kind 6 then codes "Application"
    else if nat_eq kind 7 then codes "Application Data"
    else if nat_eq kind 8 then codes "Font"
    else if nat_eq kind 9 then codes "Printer Driver"
    else if nat_eq kind 10 then codes "Input Driver"
    else if nat_eq kind 11 then codes "Disk Driver"
    else if nat_eq kind 12 then codes "System Boot"
    else if nat_eq kind 13 then codes "Temporary"
    else if nat_eq kind 14 then codes "Auto Exec"
    else if nat_eq kind 15 then codes "Input 128"
    else codes "unknown"
