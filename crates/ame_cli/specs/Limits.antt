-- The limits of a command's numbers and of its words.
use Rattle.std.specs.Prelude.{ℕ}

-- the most workers
abbrev pub worker_limit : ℕ
worker_limit = 32

-- the most turns
abbrev pub turn_limit : ℕ
turn_limit = 4000000

-- the most reductions between two events
abbrev pub slice_limit : ℕ
slice_limit = 1000

-- the greatest seed
abbrev pub seed_limit : ℕ
seed_limit = 65536

-- the greatest size
abbrev pub size_limit : ℕ
size_limit = 4000

-- the most digits of a number word
abbrev pub digit_limit : ℕ
digit_limit = 10

-- the most words of a list that is read
abbrev pub word_limit : ℕ
word_limit = 16
