-- Items one after the other, whatever stands for them: a list in two parts is the second part after the first.
use Rattle.std.specs.Prelude.{◌≡◌, refl, List, [], ◌∷◌, ◌++◌, map}
use Rattle.firmware.specs.Handler.{Served}
use Rattle.steps.specs.declared.Item.{Item}
use Rattle.steps.specs.Step.{after, after_all}

pub after_joined :
    {A : Type 0} (item : A → Item) (w : Served) (first second : List A)
    → after_all w (map item (first ++ second)) ≡ after_all (after_all w (map item first)) (map item second)
unfolding after_all
after_joined item w [] second = refl
after_joined item w (x ∷ xs) second = after_joined item (after w (item x)) xs second
