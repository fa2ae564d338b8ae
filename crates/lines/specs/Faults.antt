-- The number of each fault, with the field and the offset that it carries, and its text.
use Rattle.std.specs.Prelude.{ℕ, List, ◌++◌, codes}
use Rattle.std.specs.Fmt.{decimal}
use Rattle.lines.specs.declared.fault.LineFault.{LineFault}
use Rattle.lines.specs.declared.fault.LineFault.TheVariants.{Word, Missing, Surplus, Number}
use Rattle.lines.specs.declared.fault.NumberFault.{NumberFault}
use Rattle.lines.specs.declared.fault.NumberFault.TheVariants.{Form, Limit}
use Rattle.lines.specs.declared.fault.Report.{Report}

-- 3: the form breaks at the offset; 4: a channel over 255
abbrev pub number_report : NumberFault → Report
number_report (Form field offset) = record { cause = 3; field = field; offset = offset }
number_report (Limit field) = record { cause = 4; field = field; offset = 0 }

-- 1: an unknown word; 2: the first missing or surplus field; 3 and 4: a fault of a number
abbrev pub line_report : LineFault → Report
line_report Word = record { cause = 1; field = 0; offset = 0 }
line_report (Missing field) = record { cause = 2; field = field; offset = 0 }
line_report (Surplus field) = record { cause = 2; field = field; offset = 0 }
line_report (Number fault) = number_report fault

-- what is wrong with a number, in words
abbrev pub number_words : NumberFault → List ℕ
number_words (Form field offset) = codes "the number breaks its form here"
number_words (Limit field) = codes "the channel is over 255"

-- what is wrong with a line, in words
abbrev pub line_words : LineFault → List ℕ
line_words Word = codes "no operation has this word"
line_words (Missing field) = codes "this field is missing"
line_words (Surplus field) = codes "this field is one too many"
line_words (Number fault) = number_words fault

-- the numbers of a report, as they are printed
abbrev pub report_text : Report → List ℕ
report_text r = codes "cause " ++ decimal r.cause ++ codes ", field " ++ decimal r.field ++ codes ", offset " ++ decimal r.offset ++ codes ": "

-- a fault as it is printed: its numbers, then its words
abbrev pub line_text : LineFault → List ℕ
line_text fault = report_text (line_report fault) ++ line_words fault
