-- The chapter Classes of docs/RULES.md: what the number of a refusal tells of a sheet that was to be read and built, or written.
use Rattle.std.specs.Prelude.{Bool, true, false, cond, ◌||◌, ℕ, eqb}
use Rattle.grid_codes.specs.Ranges.{among}
use Rattle.grid_codes.specs.declared.classes.Class.{Class}
use Rattle.grid_codes.specs.declared.classes.Class.TheVariants.{None, Reading, Building, Writing, Unknown}

-- the sheet was not read: nothing of it shows
abbrev pub of_reading : ℕ → Bool
of_reading refusal = among 1 4 refusal || among 11 14 refusal || eqb refusal 22

-- the sheet was read, and its parts stand in the buffers; what it says is not built
abbrev pub of_building : ℕ → Bool
of_building refusal = among 5 10 refusal

-- the parts are those of a sheet, which is not written: there is too little room for it, or its edition has no place for a mode
abbrev pub of_writing : ℕ → Bool
of_writing refusal = eqb refusal 15 || eqb refusal 23

-- the class of a refusal's number: 0 is no refusal, and a number of no class is Unknown
unfoldable pub class : ℕ → Class
class refusal =
    cond (eqb refusal 0) None
    (cond (of_reading refusal) Reading (cond (of_building refusal) Building (cond (of_writing refusal) Writing Unknown)))

-- the class of a sheet that was read and built
abbrev pub built : Class → Bool
built None = true
built Reading = false
built Building = false
built Writing = false
built Unknown = false

-- the class of a sheet that was not read
abbrev pub unread : Class → Bool
unread None = false
unread Reading = true
unread Building = false
unread Writing = false
unread Unknown = false

-- whether a sheet of this refusal has no fault before its tail: then its length is known
abbrev pub length_known : ℕ → Bool
length_known refusal = eqb refusal 0 || eqb refusal 14
