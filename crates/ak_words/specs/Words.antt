-- What the words of the command line ask for.
use Rattle.std.specs.Prelude.{ℕ, ◌≡◌, ◌+◌, ◌-◌, ◌*◌, ◌^◌, ◌≤◌, ◌⊎◌, List, [], ◌∷◌, map, filter, length, codes, Result, Ok, Err}
use Rattle.std.specs.Str.{bytes_eq}
use Rattle.std.specs.Int.{IsInRange}
use Rattle.std.specs.List.{AllByRecursion}
use Rattle.ak_base.specs.declared.limits.Limits.{Limits}
use Rattle.ak_base.specs.Ranges.{AreLimits}
use Rattle.ak_words.specs.declared.job.Command.{Command}
use Rattle.ak_words.specs.declared.job.Command.TheVariants.{Create, Run, Scratch}
use Rattle.ak_words.specs.declared.job.Job.{Job}
use Rattle.ak_words.specs.declared.job.WordsError.{WordsError}
use Rattle.ak_words.specs.declared.job.WordsError.TheVariants.{Usage, Memory}

-- the value of decimal digits, each by its place
abbrev pub value_of : List ℕ → ℕ
value_of [] = 0
value_of (c ∷ cs) = (c - 48) * 10 ^ length cs + value_of cs

-- The text is 1 to 10 digits with this value.
pub record IsNumber (text : List ℕ) (n : ℕ) : Type 0 where
  pub digits : AllByRecursion (λ c. IsInRange 48 57 c) text
  pub least : 1 ≤ length text
  pub most : length text ≤ 10
  pub value : n ≡ value_of text

-- a name and the text behind it
pub record Pair : Type 0 where
  pub name : List ℕ
  pub text : List ℕ

-- the pairs as words
abbrev pub row_of : List Pair → List (List ℕ)
row_of [] = []
row_of (p ∷ ps) = p.name ∷ p.text ∷ row_of ps

-- the texts behind this name
abbrev pub behind : List ℕ → List Pair → List (List ℕ)
behind name pairs = map (λ p. p.text) (filter (λ p. bytes_eq p.name name) pairs)

abbrev pub IsName : List ℕ → Type 0
IsName name = (name ≡ codes "--volumes") ⊎ (name ≡ codes "--blocks") ⊎ (name ≡ codes "--slot") ⊎ (name ≡ codes "--pool") ⊎ (name ≡ codes "--every") ⊎ (name ≡ codes "--scale")

-- The name does not stand, and the limit is the default, or it stands once, and the limit is the number behind it, which
-- is in the range.
abbrev pub IsLimit : List ℕ → ℕ → ℕ → ℕ → List Pair → ℕ → Type 0
IsLimit name least most default pairs n =
    ((behind name pairs ≡ []) × (n ≡ default))
    ⊎ ((text : List ℕ) × (behind name pairs ≡ text ∷ []) × IsNumber text n × (least ≤ n) × (n ≤ most))

-- The pairs have the names of limits, and give these limits.
pub record Give (pairs : List Pair) (limits : Limits) : Type 0 where
  pub names : AllByRecursion (λ p. IsName p.name) pairs
  pub volumes : IsLimit (codes "--volumes") 2 64 4 pairs limits.volumes
  pub blocks : IsLimit (codes "--blocks") 16 1048576 4096 pairs limits.blocks
  pub slot : IsLimit (codes "--slot") 1 4096 256 pairs limits.slot
  pub pool : IsLimit (codes "--pool") 1 4096 256 pairs limits.pool
  pub every : IsLimit (codes "--every") 1 65536 16 pairs limits.every
  pub scale : IsLimit (codes "--scale") 0 9 6 pairs limits.scale

-- The words are pairs that give these limits.
pub record AreOptions (words : List (List ℕ)) (limits : Limits) : Type 0 where
  pub pairs : List Pair
  pub row : row_of pairs ≡ words
  pub give : Give pairs limits

-- The words ask for this command on this directory.
abbrev pub Asks : List (List ℕ) → Command → List ℕ → Type 0
Asks words Scratch dir = (words ≡ []) × (dir ≡ [])
Asks words Run dir = words ≡ codes "run" ∷ dir ∷ []
Asks words (Create limits) dir = (options : List (List ℕ)) × (words ≡ codes "create" ∷ dir ∷ options) × AreOptions options limits

-- The words ask for this job.
pub record IsJob (words : List (List ℕ)) (job : Job) : Type 0 where
  pub asked : Asks words job.command job.dir
  pub files : job.files ≡ []

-- The words are a command.
abbrev pub IsCommand : List (List ℕ) → Type 0
IsCommand words = (job : Job) × IsJob words job

-- The limits of a new store are in their ranges.
abbrev pub HasLimits : Command → Type 0
HasLimits (Create limits) = AreLimits limits
HasLimits Run = Unit {0}
HasLimits Scratch = Unit {0}

-- `Usage` comes of words that are no command.
abbrev pub IsRefused : List (List ℕ) → Result Job WordsError → Type 0
IsRefused words (Ok job) = Unit {0}
IsRefused words (Err Usage) = ¬ (IsCommand words)
IsRefused words (Err Memory) = Unit {0}
