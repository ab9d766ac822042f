-- Answers of the lenient reading as they cross to another language (document 02 §11): the question's own answer, as
-- face/Face and face_values/FaceValues have it, and the strict check's verdict beside it, also behind a refusal.
-- Assumes nothing.
use Rattle.face.specs.Face.{as_verdict, as_file, as_trace, as_count}
use Rattle.face_values.specs.FaceValues.{as_string, as_keyword, as_value, as_number, as_double, as_location}
use Rattle.face_lenient.specs.declared.Seg2LenientVerdict.{Seg2LenientVerdict}
use Rattle.face_lenient.specs.declared.Seg2LenientFile.{Seg2LenientFile}
use Rattle.face_lenient.specs.declared.Seg2LenientTrace.{Seg2LenientTrace}
use Rattle.face_lenient.specs.declared.Seg2LenientCount.{Seg2LenientCount}
use Rattle.face_lenient.specs.declared.Seg2LenientString.{Seg2LenientString}
use Rattle.face_lenient.specs.declared.Seg2LenientKeyword.{Seg2LenientKeyword}
use Rattle.face_lenient.specs.declared.Seg2LenientValue.{Seg2LenientValue}
use Rattle.face_lenient.specs.declared.Seg2LenientNumber.{Seg2LenientNumber}
use Rattle.face_lenient.specs.declared.Seg2LenientDouble.{Seg2LenientDouble}
use Rattle.face_lenient.specs.declared.Seg2LenientLocation.{Seg2LenientLocation}
use Rattle.std.specs.Prelude.{Result, Option, Bool, ℕ, Float}
use Rattle.refusal.specs.declared.Refusal.{Refusal}
use Rattle.block.specs.declared.TraceBlock.{TraceBlock}
use Rattle.decimal_parts.specs.declared.Decimal.{Decimal}
use Rattle.location.specs.declared.Coordinates.{Coordinates}
use Rattle.head_words.specs.declared.FileBlock.{FileBlock}
use Rattle.strings.specs.declared.Place.{Place}
use Rattle.refusal.specs.Verdicts.{Verdict}

unfoldable pub lenient_verdict : Verdict → Verdict → Seg2LenientVerdict
lenient_verdict a strict = record { answer = as_verdict a; strict = as_verdict strict }

unfoldable pub lenient_file : Result FileBlock Refusal → Verdict → Seg2LenientFile
lenient_file a strict = record { answer = as_file a; strict = as_verdict strict }

unfoldable pub lenient_trace : Result TraceBlock Refusal → Verdict → Seg2LenientTrace
lenient_trace a strict = record { answer = as_trace a; strict = as_verdict strict }

unfoldable pub lenient_count : Result ℕ Refusal → Verdict → Seg2LenientCount
lenient_count a strict = record { answer = as_count a; strict = as_verdict strict }

unfoldable pub lenient_string : Result (Option Place) Refusal → Verdict → Seg2LenientString
lenient_string a strict = record { answer = as_string a; strict = as_verdict strict }

unfoldable pub lenient_keyword : Result Bool Refusal → Verdict → Seg2LenientKeyword
lenient_keyword a strict = record { answer = as_keyword a; strict = as_verdict strict }

unfoldable pub lenient_value : Result (Option Place) Refusal → Verdict → Seg2LenientValue
lenient_value a strict = record { answer = as_value a; strict = as_verdict strict }

unfoldable pub lenient_number : Result Decimal Refusal → Verdict → Seg2LenientNumber
lenient_number a strict = record { answer = as_number a; strict = as_verdict strict }

unfoldable pub lenient_double : Result Float Refusal → Verdict → Seg2LenientDouble
lenient_double a strict = record { answer = as_double a; strict = as_verdict strict }

unfoldable pub lenient_location : Result Coordinates Refusal → Verdict → Seg2LenientLocation
lenient_location a strict = record { answer = as_location a; strict = as_verdict strict }
