-- A type of elements with an order of its own. Assumes nothing.
use Rattle.std.specs.Prelude.{Bool, ◌&&◌, ◌||◌, nat_eq, nat_lt}
use Rattle.trials.specs.declared.keys.Key.{Key}

-- two keys are one where both numbers are
abbrev pub same_key : Key → Key → Bool
same_key a b = nat_eq a.id b.id && nat_eq a.tag b.tag

-- keys are ordered by their first number, and by the second where the first are equal
abbrev pub before_key : Key → Key → Bool
before_key a b = nat_lt a.id b.id || (nat_eq a.id b.id && nat_lt a.tag b.tag)
