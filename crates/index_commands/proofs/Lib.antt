mod AskLaws
mod HitCounts
