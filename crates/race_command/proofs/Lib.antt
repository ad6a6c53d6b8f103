mod Crossing
mod RunnerLaws
mod RaceLaws
