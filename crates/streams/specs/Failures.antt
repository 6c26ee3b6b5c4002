-- What a program's failures are: refusals by their numbers, or something of the system's that is no refusal.
-- The functions that reach outside are held to these where no contract can say what they read.
use Rattle.std.specs.Prelude.{◌≡◌, ℕ}
use Rattle.std.specs.IoError.{error_kind}
use Rattle.std.specs.declared.io.ErrorKind.TheVariants.{OutOfMemory}
use Rattle.refusals.specs.Refusals.{number_of}
use Rattle.refusals.specs.declared.Refusal.TheVariants.{WrongCount, UnknownForm}
use Rattle.texts.specs.declared.error.TextError.{TextError}
use Rattle.texts.specs.declared.error.TextError.TheVariants.{NoNumber, TooMany, NoMemory}
use Rattle.streams.specs.declared.failure.Failure.{Failure}
use Rattle.streams.specs.declared.failure.Failure.TheVariants.{Usage, Refused, NotBelieved, System}

-- wanting memory, or lines that cannot be read or written
abbrev pub IsSystem : Failure → Type 0
IsSystem Usage = ⊥
IsSystem (Refused e) = ⊥
IsSystem NotBelieved = ⊥
IsSystem (System e) = Unit {0}

-- not the arguments that it takes, or something of the system's
abbrev pub IsUsage : Failure → Type 0
IsUsage Usage = Unit {0}
IsUsage (Refused e) = ⊥
IsUsage NotBelieved = ⊥
IsUsage (System e) = Unit {0}

-- wanting memory
abbrev pub IsNoMemory : Failure → Type 0
IsNoMemory Usage = ⊥
IsNoMemory (Refused e) = ⊥
IsNoMemory NotBelieved = ⊥
IsNoMemory (System e) = error_kind e ≡ OutOfMemory

-- a refusal by this number, or something of the system's
abbrev pub RefusedBy : ℕ → Failure → Type 0
RefusedBy number Usage = ⊥
RefusedBy number (Refused e) = number_of e ≡ number
RefusedBy number NotBelieved = ⊥
RefusedBy number (System e) = Unit {0}

-- the failure that a text's error is; want of memory is no refusal
abbrev pub TextFailed : TextError → Failure → Type 0
TextFailed NoNumber f = f ≡ Refused UnknownForm
TextFailed TooMany f = f ≡ Refused WrongCount
TextFailed (NoMemory e) f = IsSystem f
