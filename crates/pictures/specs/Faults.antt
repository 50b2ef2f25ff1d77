-- The number of each fault, and the slip at which it lies. Assumes nothing.
use Rattle.std.specs.Prelude.{ℕ}
use Rattle.pictures.specs.declared.fault.CardFault.{CardFault}
use Rattle.pictures.specs.declared.fault.CardFault.TheVariants.{TooShort, Format, Kind, Ranges, Length, Slip, Filling, Place}
use Rattle.pictures.specs.declared.fault.WriteFault.{WriteFault}
use Rattle.pictures.specs.declared.fault.WriteFault.TheVariants as writes

abbrev pub number_of : CardFault → ℕ
number_of TooShort = 20
number_of Format = 21
number_of Kind = 22
number_of Ranges = 23
number_of Length = 24
number_of (Slip f) = 25
number_of Filling = 26
number_of Place = 19

-- The slip whose code is no element's, counted from 0, and 0 where no code is at fault.
abbrev pub slip_of : CardFault → ℕ
slip_of TooShort = 0
slip_of Format = 0
slip_of Kind = 0
slip_of Ranges = 0
slip_of Length = 0
slip_of (Slip f) = f.place
slip_of Filling = 0
slip_of Place = 0

abbrev pub write_number_of : WriteFault → ℕ
write_number_of writes.Harbour = 15
write_number_of writes.Slips = 19
write_number_of writes.Place = 18
