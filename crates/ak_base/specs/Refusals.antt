-- The numbers and texts of refusals.
use Rattle.std.specs.Prelude.{ℕ, List, ◌++◌, codes}
use Rattle.std.specs.Fmt.{decimal}
use Rattle.ak_base.specs.declared.refusal.Refusal.{Refusal}
use Rattle.ak_base.specs.declared.refusal.Refusal.TheVariants.{BadKind, BadNumber, LongLine, BadEnd, LongBulk, BadShape, Cut, TooMany, BadHead, BadLength, BadName, BadTime, BadValue, ValueRange, TimeRange, Late, MetaFull, CountsDiffer, NoControl, NotBuilt, NotJson, BadQuery, BadRange, BadFunc, TooLong}

abbrev pub code_of : Refusal → ℕ
code_of (BadKind at) = 10
code_of (BadNumber at) = 11
code_of (LongLine at) = 12
code_of (BadEnd at) = 13
code_of (LongBulk at) = 14
code_of (BadShape at) = 15
code_of Cut = 16
code_of TooMany = 17
code_of BadHead = 18
code_of BadLength = 19
code_of BadName = 20
code_of BadTime = 21
code_of BadValue = 22
code_of ValueRange = 23
code_of TimeRange = 24
code_of (Late last) = 25
code_of (MetaFull need room) = 26
code_of CountsDiffer = 27
code_of NoControl = 28
code_of NotBuilt = 29
code_of NotJson = 30
code_of BadQuery = 31
code_of BadRange = 32
code_of BadFunc = 33
code_of (TooLong length) = 35

-- what a session is told of it, behind its number
abbrev pub refusal_text : Refusal → List ℕ
refusal_text (BadKind at) = codes "bad type byte at " ++ decimal at
refusal_text (BadNumber at) = codes "bad number at " ++ decimal at
refusal_text (LongLine at) = codes "long line at " ++ decimal at
refusal_text (BadEnd at) = codes "bad line end at " ++ decimal at
refusal_text (LongBulk at) = codes "long bulk at " ++ decimal at
refusal_text (BadShape at) = codes "wrong shape at " ++ decimal at
refusal_text Cut = codes "input ended inside a message"
refusal_text TooMany = codes "too many sessions"
refusal_text BadHead = codes "bad head"
refusal_text BadLength = codes "bad length"
refusal_text BadName = codes "bad name"
refusal_text BadTime = codes "bad timestamp"
refusal_text BadValue = codes "bad value"
refusal_text ValueRange = codes "value out of range"
refusal_text TimeRange = codes "timestamp out of range"
refusal_text (Late last) = codes "late, last " ++ decimal last
refusal_text (MetaFull need room) = codes "metadata full, need " ++ decimal need ++ codes " room " ++ decimal room
refusal_text CountsDiffer = codes "counts differ"
refusal_text NoControl = codes "unknown control"
refusal_text NotBuilt = codes "not built"
refusal_text NotJson = codes "not JSON"
refusal_text BadQuery = codes "bad query"
refusal_text BadRange = codes "bad time"
refusal_text BadFunc = codes "unknown function"
refusal_text (TooLong length) = codes "answer too long, " ++ decimal length
