mod RegionFacts
