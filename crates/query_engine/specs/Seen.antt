-- What contracts see of texts and of sorted keys.
use Rattle.std.specs.Prelude.{ℕ, List, map}
use Rattle.query_engine.specs.declared.key.Key.{Key}
use Rattle.query_engine.specs.declared.label.Label.{Label}
use Rattle.query_engine.specs.declared.spelling.FrontedText.{FrontedText}
use Rattle.query_engine.specs.Labels.{labelled}
use Rattle.query_engine.specs.Pairs.{Pair}

-- the bytes of texts
abbrev pub texts_seen : List FrontedText → List (List ℕ)
texts_seen texts = map (λ t. t.bytes.now) texts

-- labels, each as a list
abbrev pub labels_seen : List Label → List (List ℕ)
labels_seen labels = map (λ l. labelled l.linkage l.tail l.name.now) labels

-- the key as a pair
abbrev pub pair_seen : Key → Pair
pair_seen k = (k.number, k.text.bytes.now)

-- the keys as pairs
abbrev pub pairs_seen : List Key → List Pair
pairs_seen ks = map pair_seen ks
