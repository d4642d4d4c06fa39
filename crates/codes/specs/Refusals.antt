-- The number of each refusal, what it means in words, and how it is printed. Assumes nothing.
use Rattle.std.specs.Prelude.{ℕ, List, ◌++◌, codes, decimal}
use Rattle.codes.specs.declared.refusal.Refusal.{Refusal}
use Rattle.codes.specs.declared.refusal.Refusal.TheVariants.{WrongFrameLength, ShortReplyBuffer, WrongDataCount, ZeroConnectionId, UnlawfulLength, ZeroWatchdog, TooManyUserOctets, SinkDown}

abbrev pub number : Refusal → ℕ
number WrongFrameLength = 21
number ShortReplyBuffer = 22
number WrongDataCount = 23
number ZeroConnectionId = 31
number UnlawfulLength = 32
number ZeroWatchdog = 33
number TooManyUserOctets = 34
number SinkDown = 41

abbrev pub meaning : Refusal → List ℕ
meaning WrongFrameLength = codes "the frame has another length than the connection's frames"
meaning ShortReplyBuffer = codes "the reply buffer is shorter than a frame"
meaning WrongDataCount = codes "the data octets are not as many as the data length says"
meaning ZeroConnectionId = codes "the connection ID is 0"
meaning UnlawfulLength = codes "the data length is not an even number from 2 to 32"
meaning ZeroWatchdog = codes "the watchdog time is 0"
meaning TooManyUserOctets = codes "there are more than 16 user parameter octets"
meaning SinkDown = codes "the sink is down"

-- as in "31: the connection ID is 0"
abbrev pub printed : Refusal → List ℕ
printed r = decimal (number r) ++ (codes ": " ++ meaning r)
