-- Between crates: how long a word may be that is put at once.
use Rattle.std.specs.Prelude.{ℕ}

abbrev pub word_most : ℕ
word_most = 64
