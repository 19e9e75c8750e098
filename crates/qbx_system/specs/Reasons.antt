-- The number of an error, by which it is told.
use Rattle.std.specs.Prelude.{ℤ, pos}
use Rattle.std.specs.declared.option.Option.{Option}
use Rattle.std.specs.declared.option.Option.TheVariants.{None, Some}
use Rattle.std.specs.declared.io.Error.{Error}
use Rattle.std.specs.declared.io.ErrorKind.{ErrorKind}
use Rattle.std.specs.declared.io.ErrorKind.TheVariants.{InvalidInput}
use Rattle.std.specs.IoError.{raw_os_error, error_kind}

-- of an error that has none of the system's: EINVAL for a name that no file can have, EIO for any other
unfoldable pub kind_number : ErrorKind → ℤ
kind_number InvalidInput = pos 22
kind_number k = pos 5

unfoldable pub number_by : Option ℤ → ErrorKind → ℤ
number_by (Some n) k = n
number_by None k = kind_number k

unfoldable pub number_of : Error → ℤ
number_of e = number_by (raw_os_error e) (error_kind e)
