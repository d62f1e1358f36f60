-- What is put for one letter, and what stays for the others.
use Rattle.std.proofs.Common.{◌≡◌, ◌≢◌, arith}
use Rattle.rangecalc.specs.Named.{at, each, put}
use Rattle.rangecalc.specs.declared.named.Name.{Name}
use Rattle.rangecalc.specs.declared.named.Name.TheVariants.{A, B, C, D}
use Rattle.rangecalc.specs.declared.named.Named.{Named}

module _ {X Y : Type 0} (f : X → Y) (things : Named X) where
  pub each_put : (name : Name) (x : X) → each f (put things name x) ≡ put (each f things) name (f x)
  each_put name x = grind arith

  pub at_each : (name : Name) {x : X} → x ≡ at things name → f x ≡ at (each f things) name
  at_each name is = grind arith

  pub each_put_twice : (name next following : Name) (x y : X) → next ≡ following
      → each f (put (put things name x) next y) ≡ put (put (each f things) name (f x)) following
      (f y)
  each_put_twice name next following x y is = grind arith

  pub each_put_again : (name : Name) (x y : X)
      → each f (put (put things name x) name y) ≡ put (each f things) name (f y)
  each_put_again name x y = grind arith

  pub at_each_others : (name other : Name) (x : X) {y : X} → name ≢ other
      → y ≡ at (put things name x) other → f y ≡ at (each f things) other
  at_each_others name other x differ is = grind arith
